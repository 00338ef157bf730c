use Rattle.std.proofs.Common.{ℕ, ◌≡◌, ◌*◌, List, subst, ◌↔◌}
use Rattle.num_system.specs.Tracks.{number_under}
use Rattle.number_relations.specs.Relations.{RelationHolds}
use Rattle.number_relations.proofs.MultipleLemmas.{steps_multiple}
use Rattle.number_relations.proofs.RelationLemmas.{numbers_of_names}
use Rattle.number_relations.proofs.step_laws.multiples_hold.Goals as goal

pub returns-clause-holds : goal.returns-clause-holds
returns-clause-holds c system factor x y r ns is count =
    let f : List ℕ → ℕ = number_under r.names ns in
    subst (λ (ms : List ℕ). RelationHolds r ms ↔ (f y ≡ factor * f x)) (numbers_of_names r.names ns is.relation.tracked.distinct count) (is.holds_of f)

pub returns-clause-steps : goal.returns-clause-steps
returns-clause-steps c = steps_multiple
