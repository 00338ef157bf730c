-- Complements of relations.
use Rattle.std.proofs.Common.{◌≡◌, ℕ, List, length, ap, sym, ◌∙◌, subst, ◌↔◌}
use Rattle.std.specs.List.{AllByRecursion}
use Rattle.std.proofs.lemmas.List.{length-map}
use Rattle.digit_tuple.specs.Names.{AreDistinct}
use Rattle.product_op.specs.Validity.{AreLanguages}
use Rattle.numeration.specs.Relations.{HoldsOf}
use Rattle.num_system.specs.Sealed.{SystemValue, system_of, IsSealed}
use Rattle.num_system.proofs.ValidityLinks.{complement_holds as complement_says}
use Rattle.num_system.specs.Tracks.{ShareDirection, systems_of, direction_of, languages_of}
use Rattle.number_relations.specs.Relations.{RelationValue, IsRelation, RelationHolds, named_of}
use Rattle.number_relations.specs.Complements.{IsRelationComplement}
use Rattle.num_system.proofs.HoldLemmas.{closed_from, holds_representation, representation_holds}
use Rattle.num_system.proofs.SealedLemmas.{are_systems, languages_are, languages_fit}

module _ (a : RelationValue) (is_a : IsRelation a) where
  -- there is a language for each track
  pub own_languages : AreLanguages a.automaton.sizes (languages_of a.systems)
  own_languages = subst (λ (sizes : List ℕ). AreLanguages sizes (languages_of a.systems)) (sym is_a.closed.sizes) (languages_fit a.systems is_a.sealed)

  module _ (c : RelationValue) (made : IsRelationComplement a c) where
    -- the relation does not hold
    abbrev Fails : List ℕ → Type 0
    Fails ns = ¬ RelationHolds a ns

    says : HoldsOf (direction_of c.systems) (systems_of c.systems) Fails c.automaton
    says = subst (λ (ss : List SystemValue). HoldsOf (direction_of ss) (systems_of ss) Fails c.automaton) (sym made.systems)
        (complement_says (direction_of a.systems) (systems_of a.systems) (languages_of a.systems) (languages_are (direction_of a.systems) a.systems is_a.sealed is_a.shared_direction) (named_of a) c.automaton made.complement.sizes
        (RelationHolds a) is_a.closed made.complement.language)

    sealed_c : AllByRecursion IsSealed c.systems
    sealed_c = subst (λ (ss : List SystemValue). AllByRecursion IsSealed ss) (sym made.systems) is_a.sealed

    count_c : length c.systems ≡ length c.names
    count_c = ap length made.systems ∙ is_a.count ∙ sym (ap length made.complement.names)

    pub complement_is : IsRelation c
    complement_is = record {
      tracked = record {
        count = ap length made.complement.names ∙ is_a.tracked.count ∙ sym (ap length made.complement.sizes);
        distinct = subst (λ (names : List (List ℕ)). AreDistinct names) (sym made.complement.names) is_a.tracked.distinct;
        canonical = made.complement.canonical;
      };
      count = count_c;
      sealed = sealed_c;
      shared_direction = subst (λ (ss : List SystemValue). ShareDirection ss) (sym made.systems) is_a.shared_direction;
      closed = closed_from (direction_of c.systems) (systems_of c.systems) Fails c.automaton says;
    }

    pub complement_holds : (ns : List ℕ) → length ns ≡ length c.names → RelationHolds c ns ↔ ¬ RelationHolds a ns
    complement_holds ns count = (
      representation_holds (direction_of c.systems) (systems_of c.systems) Fails c.automaton says ns,
      holds_representation (direction_of c.systems) (systems_of c.systems) Fails c.automaton says (are_systems c.systems sealed_c) ns (count ∙ sym (length-map c.systems system_of ∙ count_c)),
    )
