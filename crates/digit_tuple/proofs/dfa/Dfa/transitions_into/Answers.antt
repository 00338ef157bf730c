use Rattle.std.proofs.Common.{sym, ◌∙◌, subst, arith}
use Rattle.digit_tuple.specs.Deterministic.{IsRow, states_of, letters_of}
use Rattle.digit_tuple.proofs.DecisionLemmas.{on_ok}
use Rattle.digit_tuple.proofs.KeptLemmas.{kept-count, kept-transitions, kept-row}
use Rattle.digit_tuple.proofs.dfa.Dfa.transitions_into.Goals as goal

pub row_into-requires : goal.row_into-requires
row_into-requires c = omega (arith, c.requires, kept-count c.self.inside.flags.items c.self.inside.table c.args.self.now c.self.invariant.0 c.self.view_is)

pub returns-clause-transitions : goal.returns-clause-transitions
returns-clause-transitions c =
    let same = kept-transitions c.self.inside.flags.items c.self.inside.table c.args.self.now c.self.invariant.0 c.self.view_is c.args.state in
    on_ok c.row_into.result _ _ _ _ c.row_into.ensures c.row_into.ensures c.row_into.ensures (λ r _ _. r ∙ same)

pub returns-clause-row : goal.returns-clause-row
returns-clause-row c =
    let d = c.args.self.now in
    let same = kept-transitions c.self.inside.flags.items c.self.inside.table d c.self.invariant.0 c.self.view_is c.args.state in
    let row = kept-row c.self.inside.flags.items c.self.inside.table d c.self.invariant.0 c.self.view_is c.self.invariant.1 c.args.state c.requires in
    on_ok c.row_into.result _ _ _ _ c.row_into.ensures c.row_into.ensures c.row_into.ensures
    (λ r _ _. subst (IsRow (letters_of d) (states_of d)) (sym (r ∙ same)) row)
