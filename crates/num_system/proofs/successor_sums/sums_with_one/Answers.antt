use Rattle.std.proofs.Common.{sym, subst}
use Rattle.digit_tuple.specs.Deterministic.{Automaton}
use Rattle.num_system.specs.Successor.{IsSuccessorOf}
use Rattle.num_system.specs.SuccessorSums.{IsBothForSome, on_u, sum_on}
use Rattle.num_system.proofs.SuccessorSumLemmas.{sums_hold}
use Rattle.num_system.proofs.successor_sums.sums_with_one.Goals as goal

pub returns-clause-successor : goal.returns-clause-successor
returns-clause-successor c s system adds one =
    let direction = c.args.direction in
    let made : IsBothForSome direction (sum_on c.args.adder.now) (on_u c.args.one.now) c.in_ok-next.next = rw (c.in_ok-sum.ensures, c.in_ok-number.ensures) at c.in_ok-next.ensures in
    subst (λ (d : Automaton). IsSuccessorOf direction s d) (sym c.into_dfa.ensures.value)
    (sums_hold direction s c.args.adder.now c.args.one.now c.in_ok-next.next system adds one made)
