use Rattle.std.proofs.Common.{[], ◌∷◌, sym, subst}
use Rattle.std.proofs.lemmas.Result.{IfOk-at_ok}
use Rattle.digit_tuple.specs.Deterministic.{Automaton}
use Rattle.digit_tuple.specs.declared.stepped.Stepped.{Stepped}
use Rattle.minimise.specs.Tracked.{NamedAutomaton}
use Rattle.product_op.specs.declared.op.Op.TheVariants.{AndNot}
use Rattle.numeration.specs.Relations.{HoldsOf}
use Rattle.num_system.specs.Operations.{IsProduct}
use Rattle.num_system.specs.SuccessorSums.{IsOne, on_u}
use Rattle.num_system.proofs.StepLemmas.{product_made}
use Rattle.num_system.proofs.SuccessorSumLemmas.{one_holds}
use Rattle.num_system.proofs.successor_sums.one_from.Goals as goal

pub returns-clause-one : goal.returns-clause-one
returns-clause-one c direction s positive above =
    let one = c.in_ok-one.one.result in
    let made : IsProduct AndNot c.in_ok-first.first c.in_ok-second.second [] one =
    IfOk-at_ok (λ stepped. IsProduct AndNot c.in_ok-first.first c.in_ok-second.second [] stepped.result) c.in_ok-one.ensures
    (product_made AndNot c.in_ok-first.first c.in_ok-second.second [] (λ (stepped : Stepped NamedAutomaton). stepped.result) c.product.result
    c.product.ensures.names c.product.ensures.sizes c.product.ensures.canonical c.product.ensures.language) in
    let here : IsProduct AndNot (on_u c.args.positive.now) (on_u c.args.above_one.now) [] one = rw (c.in_ok-first.ensures, c.in_ok-second.ensures) at made in
    subst (λ (d : Automaton). HoldsOf direction (s ∷ []) IsOne d) (sym c.into_dfa.ensures.value)
    (one_holds direction s c.args.positive.now c.args.above_one.now one positive above here)
