use Rattle.std.proofs.Common.{[], ◌∷◌}
use Rattle.product_op.proofs.ResultLemmas.{IfOk-three}
use Rattle.numeration.specs.Relations.{IsSum}
use Rattle.number_order.proofs.KeptLemmas.{relation_kept}
use Rattle.num_system.proofs.seal.minimal_adder.Goals as goal

pub returns-clause-adder : goal.returns-clause-adder
returns-clause-adder g c =
    let s = g.N.NumSystem.system c.args.system.now in
    let direction = g.N.NumSystem.first_digit c.args.system.now in
    IfOk-three c.canonical.result _ _ _ _
    (λ minimal sizes language canonical. relation_kept direction (s ∷ s ∷ s ∷ []) IsSum c.in_ok-adder.adder minimal c.in_ok-adder.ensures sizes language)
    c.canonical.ensures.sizes c.canonical.ensures.language c.canonical.ensures.canonical
