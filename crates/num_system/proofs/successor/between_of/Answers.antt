use Rattle.std.proofs.Common.{◌≡◌, ℕ, List, subst}
use Rattle.std.specs.Result.{IfOk}
use Rattle.std.proofs.lemmas.Result.{IfOk-weaker}
use Rattle.digit_tuple.specs.declared.stepped.Stepped.{Stepped}
use Rattle.minimise.specs.Tracked.{NamedAutomaton}
use Rattle.num_system.specs.SuccessorSteps.{name_u}
use Rattle.num_system.specs.Operations.{IsProjection}
use Rattle.num_system.proofs.StepLemmas.{projection_made}
use Rattle.num_system.proofs.SuccessorLemmas.{between_holds}
use Rattle.num_system.proofs.successor.between_of.Goals as goal

pub returns-clause-projection : goal.returns-clause-projection
returns-clause-projection c =
    let u : c.in_ok-u.u ≡ name_u = c.in_ok-u.ensures in
    subst (λ (t : List ℕ). IfOk c.project.result (λ stepped. IsProjection c.args.direction c.args.chain.now t stepped.result)) u
    (projection_made c.args.direction c.args.chain.now c.in_ok-u.u (λ (stepped : Stepped NamedAutomaton). stepped.result) c.project.result
    c.project.ensures.names c.project.ensures.sizes c.project.ensures.canonical c.project.ensures.language)

pub returns-clause-relation : goal.returns-clause-relation
returns-clause-relation c =
    IfOk-weaker c.project.result _ _
    (λ stepped made s system holds. between_holds c.args.direction s c.args.chain.now stepped.result system c.requires.names holds made)
    (returns-clause-projection c)
