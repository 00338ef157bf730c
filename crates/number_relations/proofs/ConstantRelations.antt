-- Relations that hold of one number alone.
use Rattle.std.proofs.Common.{◌≡◌, ℕ, List, [], ◌∷◌, length, get_or, refl, ap, sym, ◌∙◌, subst, arith, ◌↔◌}
use Rattle.std.specs.List.{AllByRecursion}
use Rattle.digit_tuple.specs.Names.{AreDistinct}
use Rattle.numeration.specs.Relations.{HoldsOf}
use Rattle.num_system.specs.Sealed.{SystemValue, IsSealed}
use Rattle.num_system.specs.Tracks.{ShareDirection, systems_of, direction_of}
use Rattle.number_relations.specs.Relations.{RelationValue, IsRelation, RelationHolds}
use Rattle.number_relations.specs.Constants.{IsRelationConstant}
use Rattle.num_system.proofs.HoldLemmas.{closed_from, holds_representation, representation_holds}
use Rattle.num_system.proofs.SealedLemmas.{are_systems}

one_name : (name : List ℕ) → AreDistinct (name ∷ [])
one_name name i j d before within = absurd (omega (arith, before, within))

module _ (system : SystemValue) (number : ℕ) (name : List ℕ) (c : RelationValue) (sealed : IsSealed system) (made : IsRelationConstant system number name c) where
  -- the numbers are this one
  abbrev IsIt : List ℕ → Type 0
  IsIt ns = ns ≡ number ∷ []

  says : HoldsOf (direction_of c.systems) (systems_of c.systems) IsIt c.automaton
  says = subst (λ (ss : List SystemValue). HoldsOf (direction_of ss) (systems_of ss) IsIt c.automaton) (sym made.systems) made.constant

  sealed_c : AllByRecursion IsSealed c.systems
  sealed_c = subst (λ (ss : List SystemValue). AllByRecursion IsSealed ss) (sym made.systems) (sealed, tt)

  pub constant_is : IsRelation c
  constant_is = record {
    tracked = record {
      count = ap length made.names ∙ sym (ap length made.constant.sizes);
      distinct = subst (λ (names : List (List ℕ)). AreDistinct names) (sym made.names) (one_name name);
      canonical = made.canonical;
    };
    count = ap length made.systems ∙ sym (ap length made.names);
    sealed = sealed_c;
    shared_direction = subst (λ (ss : List SystemValue). ShareDirection ss) (sym made.systems) (refl, tt);
    closed = closed_from (direction_of c.systems) (systems_of c.systems) IsIt c.automaton says;
  }

  pub constant_holds : (n : ℕ) → RelationHolds c (n ∷ []) ↔ (n ≡ number)
  constant_holds n = (
    λ holds. ap (λ (ns : List ℕ). get_or ns 0 0) (representation_holds (direction_of c.systems) (systems_of c.systems) IsIt c.automaton says (n ∷ []) holds),
    λ is. holds_representation (direction_of c.systems) (systems_of c.systems) IsIt c.automaton says (are_systems c.systems sealed_c) (n ∷ []) (sym (ap (λ (ss : List SystemValue). length (systems_of ss)) made.systems)) (ap (λ m. m ∷ []) is),
  )
