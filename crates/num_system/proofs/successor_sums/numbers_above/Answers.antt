use Rattle.std.proofs.Common.{[], ◌∷◌, sym, subst}
use Rattle.digit_tuple.specs.Deterministic.{Automaton}
use Rattle.numeration.specs.Relations.{HoldsOf}
use Rattle.num_system.specs.SuccessorSteps.{name_u, name_x, order_on}
use Rattle.num_system.specs.SuccessorSums.{IsPositive, IsAboveOne, IsBothForSome, on_u}
use Rattle.num_system.proofs.SuccessorSumLemmas.{positive_holds, above_one_holds}
use Rattle.num_system.proofs.successor_sums.numbers_above.Goals as goal

pub returns-clause-positive : goal.returns-clause-positive
returns-clause-positive c s system order zeros =
    let direction = c.args.direction in
    let made : IsBothForSome direction (order_on c.args.less.now name_u name_x) (on_u c.args.numbers.now) c.in_ok-above.above = rw (c.in_ok-order.ensures, c.in_ok-lower.ensures) at c.in_ok-above.ensures in
    subst (λ (d : Automaton). HoldsOf direction (s ∷ []) IsPositive d) (sym c.into_dfa.ensures.value)
    (positive_holds direction s c.args.less.now c.args.numbers.now c.in_ok-above.above system order zeros made)

pub returns-clause-above_one : goal.returns-clause-above_one
returns-clause-above_one c s system order positive =
    let direction = c.args.direction in
    let made : IsBothForSome direction (order_on c.args.less.now name_u name_x) (on_u c.args.numbers.now) c.in_ok-above.above = rw (c.in_ok-order.ensures, c.in_ok-lower.ensures) at c.in_ok-above.ensures in
    subst (λ (d : Automaton). HoldsOf direction (s ∷ []) IsAboveOne d) (sym c.into_dfa.ensures.value)
    (above_one_holds direction s c.args.less.now c.args.numbers.now c.in_ok-above.above system order positive made)
