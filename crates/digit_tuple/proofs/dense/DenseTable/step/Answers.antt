use Rattle.std.proofs.Common.{◌<◌, subst, sym}
use Rattle.std.specs.Option.{IfSome}
use Rattle.digit_tuple.specs.Deterministic.{states_of, letters_of}
use Rattle.digit_tuple.proofs.DfaLemmas.{target_by-in_range}
use Rattle.digit_tuple.proofs.dense.DenseTable.step.Goals as goal

pub returns-clause-in_range : goal.returns-clause-in_range
returns-clause-in_range c = subst (λ o. IfSome o (λ q. q < states_of c.args.self.now)) (sym c.target_in.ensures)
    (target_by-in_range (letters_of c.args.self.now) (states_of c.args.self.now) c.transitions.result.now c.args.letter c.transitions.ensures.row.in_range)
