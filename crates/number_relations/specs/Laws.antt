-- Laws of relations, on tuples of numbers.
use Rattle.std.specs.Prelude.{◌≡◌, ℕ, ◌+◌, List, [], ◌∷◌, length, ◌⊎◌, ◌↔◌}
use Rattle.digit_tuple.specs.Deterministic.{Automaton}
use Rattle.digit_tuple.specs.Names.{places_of}
use Rattle.digit_tuple.specs.Parts.{picked}
use Rattle.num_system.specs.Sealed.{SystemValue}
use Rattle.num_system.specs.Tracks.{number_under}
use Rattle.number_relations.specs.Relations.{RelationValue, IsRelation, RelationHolds, HoldsOver}
use Rattle.number_relations.specs.Placed.{IsPlaced}
use Rattle.number_relations.specs.Comparisons.{Compares, IsComparison, IsSumRelation, IsAnyNumber}
use Rattle.num_system.specs.declared.comparison.Comparison.{Comparison}

-- a relation holds of a tuple or it does not
abbrev pub RelationsAreDecided : Type 0
RelationsAreDecided = (r : RelationValue) (ns : List ℕ) → IsRelation r → RelationHolds r ns ⊎ (RelationHolds r ns → ⊥)

-- a relation is determined by its tracks and its tuples: two that have the same are equal
abbrev pub TuplesDetermineRelations : Type 0
TuplesDetermineRelations = (r s : RelationValue) → IsRelation r → IsRelation s → r.names ≡ s.names → r.systems ≡ s.systems
    → ((ns : List ℕ) → length ns ≡ length r.names → RelationHolds r ns ↔ RelationHolds s ns) → r ≡ s

-- a placed automaton holds of numbers where it holds of those that its tracks have under their names
abbrev pub PlacedHolds : Type 0
PlacedHolds = (d : Automaton) (systems : List SystemValue) (under : List (List ℕ)) (r : RelationValue) (ns : List ℕ)
    → IsPlaced d systems under r → length ns ≡ length r.names → RelationHolds r ns ↔ HoldsOver systems d (picked (places_of r.names under) ns)

-- it is the only relation that is so placed
abbrev pub OnePlaced : Type 0
OnePlaced = (d : Automaton) (systems : List SystemValue) (under : List (List ℕ)) (r s : RelationValue)
    → IsPlaced d systems under r → IsPlaced d systems under s → r ≡ s

-- a comparison holds of numbers where they compare so
abbrev pub ComparisonsHold : Type 0
ComparisonsHold = (system : SystemValue) (comparison : Comparison) (first second : List ℕ) (r : RelationValue) (ns : List ℕ)
    → IsComparison system comparison first second r → length ns ≡ length r.names
    → RelationHolds r ns ↔ Compares comparison (number_under r.names ns first) (number_under r.names ns second)

abbrev pub OneComparison : Type 0
OneComparison = (system : SystemValue) (comparison : Comparison) (first second : List ℕ) (r s : RelationValue)
    → IsComparison system comparison first second r → IsComparison system comparison first second s → r ≡ s

-- a sum holds of numbers of which the third is the sum of the others
abbrev pub SumsHold : Type 0
SumsHold = (system : SystemValue) (x y z : List ℕ) (r : RelationValue) (ns : List ℕ)
    → IsSumRelation system x y z r → length ns ≡ length r.names
    → RelationHolds r ns ↔ (number_under r.names ns x + number_under r.names ns y ≡ number_under r.names ns z)

abbrev pub OneSum : Type 0
OneSum = (system : SystemValue) (x y z : List ℕ) (r s : RelationValue) → IsSumRelation system x y z r → IsSumRelation system x y z s → r ≡ s

-- any number is a number
abbrev pub NumbersHold : Type 0
NumbersHold = (system : SystemValue) (x : List ℕ) (r : RelationValue) (n : ℕ) → IsAnyNumber system x r → RelationHolds r (n ∷ [])

abbrev pub OneAnyNumber : Type 0
OneAnyNumber = (system : SystemValue) (x : List ℕ) (r s : RelationValue) → IsAnyNumber system x r → IsAnyNumber system x s → r ≡ s
