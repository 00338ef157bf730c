-- Letters of expressions, written as numbers.
use Rattle.std.specs.Prelude.{◌≡◌, ℕ, ◌<◌, ◌≤◌, ◌↔◌, ℤ, pos, List, [], ◌∷◌, length, slice_index_or, Option, None, Some, ⊤}
use Rattle.std.specs.List.{flat_map}
use Rattle.digit_tuple.specs.Tuples.{IsLetterOf}
use Rattle.regex_build.specs.declared.codes.LetterRange.{LetterRange}
use Rattle.regex_build.specs.declared.postfix_symbol.PostfixSymbol.{PostfixSymbol}
use Rattle.regex_build.specs.declared.postfix_symbol.PostfixSymbol.TheVariants.{Letter, Any}
use Rattle.regex_build.specs.Positions.{IsOf}

-- the members are at these indices of the sets
abbrev pub AreIndices : List (List ℤ) → List ℤ → List ℕ → Type 0
AreIndices [] [] [] = ⊤
AreIndices [] [] (index ∷ indices) = ⊥
AreIndices [] (member ∷ members) indices = ⊥
AreIndices (set ∷ sets) [] indices = ⊥
AreIndices (set ∷ sets) (member ∷ members) [] = ⊥
AreIndices (set ∷ sets) (member ∷ members) (index ∷ indices) = (index < length set) × (slice_index_or set index (pos 0) ≡ member) × AreIndices sets members indices

-- the letter is in the range
abbrev pub IsInRange : LetterRange → ℕ → Type 0
IsInRange range a = (range.first ≤ a) × (a < range.end)

-- the letters in the range are those that may be at the occurrence
abbrev pub IsRangeOf : List (List ℤ) → Option (List ℤ) → LetterRange → Type 0
IsRangeOf sets occurrence range = (a : ℕ) → IsInRange range a ↔ IsOf (IsLetterOf sets) occurrence a

-- the occurrence that a symbol is, if it is one
abbrev pub occurrence_in : PostfixSymbol → List (Option (List ℤ))
occurrence_in (Letter x) = Some x ∷ []
occurrence_in Any = None ∷ []
occurrence_in _ = []

-- the occurrences that symbols are
abbrev pub occurrences_of : List PostfixSymbol → List (Option (List ℤ))
occurrences_of symbols = flat_map occurrence_in symbols
