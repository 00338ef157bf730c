use Rattle.number_order.proofs.KeptLemmas.{language_kept}
use Rattle.product_op.proofs.ResultLemmas.{IfOk-three}
use Rattle.num_system.proofs.seal.minimal_language.Goals as goal

pub returns : goal.returns
returns g c =
    let s = g.N.NumSystem.system c.args.system.now in
    let direction = g.N.NumSystem.first_digit c.args.system.now in
    IfOk-three c.canonical.result _ _ _ _
    (λ minimal sizes language canonical. record {
      accepts = language_kept direction s c.in_ok-language.language minimal (g.met.N.NumSystem.laws c.args.system.now) c.in_ok-language.ensures sizes language canonical;
      canonical = canonical;
    })
    c.canonical.ensures.sizes c.canonical.ensures.language c.canonical.ensures.canonical
