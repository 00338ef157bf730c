-- Projections of relations.
use Rattle.std.proofs.Common.{◌≡◌, ℕ, List, length, get_or, ap, sym, ◌∙◌, subst, ◌↔◌}
use Rattle.std.specs.List.{All, AllByRecursion, Contains}
use Rattle.std.proofs.lemmas.List.{length-map}
use Rattle.digit_tuple.specs.Names.{AreDistinct, names_without, place_of}
use Rattle.digit_tuple.specs.declared.direction.Direction.{Direction}
use Rattle.pad_rename.specs.StayingTracks.{staying_places}
use Rattle.project_close.proofs.ProjectionLemmas.{names_without-distinct, names_without-there}
use Rattle.numeration.specs.Systems.{System}
use Rattle.numeration.specs.Relations.{HoldsOf}
use Rattle.numeration.specs.SomeTracks.{completed}
use Rattle.num_system.specs.Sealed.{SystemValue, system_of, IsSealed}
use Rattle.num_system.proofs.NamedProjections.{named_projection_holds}
use Rattle.num_system.specs.Tracks.{ShareDirection, systems_of, direction_of, system_under}
use Rattle.number_relations.specs.Relations.{RelationValue, IsRelation, RelationHolds, named_of, systems_in}
use Rattle.number_relations.specs.Projections.{IsRelationProjection, staying_systems}
use Rattle.num_system.proofs.HoldLemmas.{closed_from, holds_representation, representation_holds}
use Rattle.number_relations.proofs.DirectionLemmas.{direction_from}
use Rattle.num_system.proofs.UnderNames.{at_places}
use Rattle.number_relations.proofs.PlacedLemmas.{all_under}
use Rattle.num_system.proofs.SealedLemmas.{AreAllDirected, are_systems, shared_direction_from}

module _ (track : List ℕ) (a c : RelationValue) (is_a : IsRelation a) (made : IsRelationProjection track a c) where
  abbrev names : List (List ℕ)
  names = names_without a.names track

  abbrev direction : Direction
  direction = direction_of a.systems

  there : All (Contains a.names) names
  there = names_without-there a.names track

  directions : AreAllDirected direction (staying_systems a track)
  directions = all_under (λ (s : SystemValue). s.direction ≡ direction) a.names a.systems (sym is_a.count) is_a.shared_direction names there

  -- some number completes the others
  abbrev Completed : List ℕ → Type 0
  Completed = completed (systems_in a) (staying_places (named_of a) track) (RelationHolds a)

  projection_says : HoldsOf direction (systems_of (staying_systems a track)) Completed c.automaton
  projection_says = subst (λ (ss : List System). HoldsOf direction ss Completed c.automaton) (at_places a.names a.systems names is_a.count there)
      (named_projection_holds direction (systems_of a.systems) (are_systems a.systems is_a.sealed) (named_of a) track (sym (length-map a.systems system_of ∙ is_a.count)) (RelationHolds a) is_a.closed (named_of c)
      (record { names = made.projection.names; sizes = made.projection.sizes; canonical = made.projection.canonical; language = made.projection.language }))

  says : HoldsOf (direction_of c.systems) (systems_of c.systems) Completed c.automaton
  says = subst (λ (ss : List SystemValue). HoldsOf (direction_of ss) (systems_of ss) Completed c.automaton) (sym made.systems) (direction_from direction (staying_systems a track) Completed c.automaton directions projection_says)

  sealed_c : AllByRecursion IsSealed c.systems
  sealed_c = subst (λ (ss : List SystemValue). AllByRecursion IsSealed ss) (sym made.systems) (all_under IsSealed a.names a.systems (sym is_a.count) is_a.sealed names there)

  long : length (staying_systems a track) ≡ length names
  long = length-map names (system_under a.names a.systems)

  count_c : length c.systems ≡ length c.names
  count_c = ap length made.systems ∙ long ∙ sym (ap length made.projection.names)

  pub projection_is : IsRelation c
  projection_is = record {
    tracked = record {
      count = ap length made.projection.names ∙ sym (ap length made.projection.sizes ∙ length-map (staying_places (named_of a) track) (λ p. get_or a.automaton.sizes p 0) ∙ length-map names (place_of a.names));
      distinct = subst (λ (ns : List (List ℕ)). AreDistinct ns) (sym made.projection.names) (names_without-distinct a.names track is_a.tracked.distinct);
      canonical = made.projection.canonical;
    };
    count = count_c;
    sealed = sealed_c;
    shared_direction = subst (λ (ss : List SystemValue). ShareDirection ss) (sym made.systems) (shared_direction_from direction (staying_systems a track) directions);
    closed = closed_from (direction_of c.systems) (systems_of c.systems) Completed c.automaton says;
  }

  pub projection_holds : (ns : List ℕ) → length ns ≡ length c.names → RelationHolds c ns ↔ completed (systems_in a) (staying_places (named_of a) track) (RelationHolds a) ns
  projection_holds ns count = (
    representation_holds (direction_of c.systems) (systems_of c.systems) Completed c.automaton says ns,
    holds_representation (direction_of c.systems) (systems_of c.systems) Completed c.automaton says (are_systems c.systems sealed_c) ns (count ∙ sym (length-map c.systems system_of ∙ count_c)),
  )
