-- Which tables are over sets, and whether they are over the same ones.
use Rattle.std.specs.Prelude.{◌≡◌, ◌≢◌, ◌⊎◌, ℕ, ℤ, Bool, true, false, List, [], ◌∷◌, Option, None, Some, if◌then◌else◌}
use Rattle.std.specs.List.{AllByRecursion}
use Rattle.dfa_loading.specs.Places.{place_of}
use Rattle.dfa_loading.specs.declared.loaded.Loaded.{Loaded}
use Rattle.dfa_reading.specs.Headers.{Header, Truth, Systems, Sets}

-- the name of the file of a table
abbrev pub table_name : Loaded → List ℕ
table_name table = (place_of table.file).1

-- whether a file with this header is over sets; `true` and `false` are not
abbrev pub is_over_sets : Header → Bool
is_over_sets (Truth value) = false
is_over_sets (Systems names) = false
is_over_sets (Sets sets) = true

-- the name of the first table that is not over sets, if there is one
abbrev pub first_not_plain : List Loaded → Option (List ℕ)
first_not_plain [] = None
first_not_plain (table ∷ tables) = if is_over_sets table.listed.header then first_not_plain tables else Some (table_name table)

-- the table is over these sets
abbrev pub IsOverSets : List (List ℤ) → Loaded → Type 0
IsOverSets sets table = table.listed.header ≡ Sets sets

-- there is a table, and all are over these sets
abbrev pub AreOverSets : List (List ℤ) → List Loaded → Type 0
AreOverSets sets [] = ⊥
AreOverSets sets (table ∷ tables) = IsOverSets sets table × AllByRecursion (IsOverSets sets) tables

-- the name of the first table with another header
abbrev pub IsFirstUnlike : Header → List Loaded → List ℕ → Type 0
IsFirstUnlike header [] other = ⊥
IsFirstUnlike header (table ∷ tables) other = ((table.listed.header ≢ header) × (other ≡ table_name table)) ⊎ ((table.listed.header ≡ header) × IsFirstUnlike header tables other)

-- the names of the first table, and of the first later one that has another header
abbrev pub AreUnlike : List Loaded → List ℕ × List ℕ → Type 0
AreUnlike [] names = ⊥
AreUnlike (table ∷ tables) names = (names.0 ≡ table_name table) × IsFirstUnlike table.listed.header tables names.1
