-- Comparisons of two numbers, sums, and single numbers, as relations over one system.
use Rattle.std.specs.Prelude.{◌≡◌, ◌≢◌, ℕ, ◌+◌, ◌<◌, ◌≤◌, Bool, List, [], ◌∷◌, map, IsTrue, ⊤}
use Rattle.num_system.specs.Sealed.{SystemValue}
use Rattle.number_relations.specs.Relations.{RelationValue, IsRelationOf}
use Rattle.number_relations.specs.Placed.{each_once}
use Rattle.num_system.specs.declared.comparison.Comparison.{Comparison}
use Rattle.num_system.specs.declared.comparison.Comparison.TheVariants.{Equal, Unequal, Less, Greater, AtMost, AtLeast}

-- what a comparison says of two numbers
abbrev pub Compares : Comparison → ℕ → ℕ → Type 0
Compares Equal x y = x ≡ y
Compares Unequal x y = x ≢ y
Compares Less x y = x < y
Compares Greater x y = y < x
Compares AtMost x y = x ≤ y
Compares AtLeast x y = y ≤ x

-- the names of both numbers in the order of the tracks: `>` and `<=` are determined by `<` with its tracks exchanged
abbrev pub compared_names : Comparison → List ℕ → List ℕ → List (List ℕ)
compared_names Equal first second = first ∷ second ∷ []
compared_names Unequal first second = first ∷ second ∷ []
compared_names Less first second = first ∷ second ∷ []
compared_names Greater first second = second ∷ first ∷ []
compared_names AtMost first second = second ∷ first ∷ []
compared_names AtLeast first second = first ∷ second ∷ []

-- the tracks have these names, each once, and are over one system
abbrev pub IsOverOne : SystemValue → List (List ℕ) → ((List ℕ → ℕ) → Type 0) → RelationValue → Type 0
IsOverOne system names holds r = IsRelationOf (each_once names) (map (λ name. system) (each_once names)) holds r

-- the two numbers compare so
abbrev pub IsComparison : SystemValue → Comparison → List ℕ → List ℕ → RelationValue → Type 0
IsComparison system comparison first second r =
    IsOverOne system (compared_names comparison first second) (λ number_of. Compares comparison (number_of first) (number_of second)) r

-- the third number is the sum of the others
abbrev pub IsSumRelation : SystemValue → List ℕ → List ℕ → List ℕ → RelationValue → Type 0
IsSumRelation system x y z r = IsOverOne system (x ∷ y ∷ z ∷ []) (λ number_of. number_of x + number_of y ≡ number_of z) r

-- any number
abbrev pub IsAnyNumber : SystemValue → List ℕ → RelationValue → Type 0
IsAnyNumber system x r = IsOverOne system (x ∷ []) (λ number_of. ⊤) r

-- a sentence of this truth
abbrev pub IsTruth : Bool → RelationValue → Type 0
IsTruth holds r = IsRelationOf [] [] (λ number_of. IsTrue holds) r
