use Rattle.std.proofs.Common.{ℕ, List, [], sym, subst}
use Rattle.std.specs.List.{Contains}
use Rattle.std.proofs.lemmas.List.Elements.{All-contains}
use Rattle.std.proofs.lemmas.Result.{IfOk-at_ok}
use Rattle.digit_tuple.specs.Names.{AreJoint}
use Rattle.digit_tuple.specs.declared.stepped.Stepped.{Stepped}
use Rattle.minimise.specs.Tracked.{NamedAutomaton}
use Rattle.product_op.specs.declared.op.Op.TheVariants.{And}
use Rattle.num_system.specs.Operations.{IsProduct, IsProjection}
use Rattle.num_system.specs.SuccessorSteps.{name_u}
use Rattle.num_system.proofs.StepLemmas.{product_made, projection_made}
use Rattle.num_system.proofs.successor_sums.both_for_some_u.Goals as goal

pub project-requires : goal.project-requires
project-requires c =
    let both = c.in_ok-both.both.result in
    let joint : AreJoint c.args.a.now.names c.args.b.now.names both.names = IfOk-at_ok (λ stepped. AreJoint c.args.a.now.names c.args.b.now.names stepped.result.names) c.in_ok-both.ensures c.product.ensures.joint in
    record { there = subst (Contains both.names) (sym c.in_ok-u.ensures) (All-contains (Contains both.names) c.args.b.now.names name_u joint.all_second c.requires.there) }

pub returns : goal.returns
returns c =
    let both = c.in_ok-both.both.result in
    let product : IsProduct And c.args.a.now c.args.b.now [] both =
    IfOk-at_ok (λ stepped. IsProduct And c.args.a.now c.args.b.now [] stepped.result) c.in_ok-both.ensures
    (product_made And c.args.a.now c.args.b.now [] (λ (stepped : Stepped NamedAutomaton). stepped.result) c.product.result
    c.product.ensures.names c.product.ensures.sizes c.product.ensures.canonical c.product.ensures.language) in
    let projection : IsProjection c.args.direction both c.in_ok-u.u c.in_ok-some.some.result =
    IfOk-at_ok (λ stepped. IsProjection c.args.direction both c.in_ok-u.u stepped.result) c.in_ok-some.ensures
    (projection_made c.args.direction both c.in_ok-u.u (λ (stepped : Stepped NamedAutomaton). stepped.result) c.project.result
    c.project.ensures.names c.project.ensures.sizes c.project.ensures.canonical c.project.ensures.language) in
    (both, product, subst (λ (track : List ℕ). IsProjection c.args.direction both track c.in_ok-some.some.result) c.in_ok-u.ensures projection)
