use Rattle.std.proofs.Common.{arith}
use Rattle.digit_tuple.proofs.KeptLemmas.{kept-count, kept-small}
use Rattle.digit_tuple.proofs.dfa.Dfa.states.Goals as goal

pub overflow_cast-result : goal.overflow_cast-result
overflow_cast-result c =
    let small = kept-small c.self.inside.flags.items c.self.inside.table c.args.self.now c.self.invariant.0 c.self.view_is c.self.invariant.1 in
    omega (arith, small, c.len.ensures, c.self.inside.flags.ok, c.self.invariant.0)

pub returns-clause-value : goal.returns-clause-value
returns-clause-value c =
    let count = kept-count c.self.inside.flags.items c.self.inside.table c.args.self.now c.self.invariant.0 c.self.view_is in
    omega (arith, count, c.len.ensures, c.self.inside.flags.ok, c.self.invariant.0)
