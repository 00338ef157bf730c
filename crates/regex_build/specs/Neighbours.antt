-- Which letters come first and last in the words of an expression, and which are beside each other.
use Rattle.std.specs.Prelude.{List, ◌∷◌, [], ◌++◌}
use Rattle.regex_build.specs.Expression.{Expression}
use Rattle.regex_build.specs.Matches.{Matches}

-- some word begins with the letter
abbrev pub IsFirst : {L : Type 0} → Expression L → L → Type 0
IsFirst {L} e y = (after : List L) × Matches e (y ∷ after)

-- some word ends with the letter
abbrev pub IsLast : {L : Type 0} → Expression L → L → Type 0
IsLast {L} e x = (before : List L) × Matches e (before ++ x ∷ [])

-- some word has the second letter right after the first
abbrev pub IsNext : {L : Type 0} → Expression L → L → L → Type 0
IsNext {L} e x y = (before : List L) × (after : List L) × Matches e (before ++ x ∷ y ∷ after)
