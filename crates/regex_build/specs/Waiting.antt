-- The fragments of the expressions that wait, while the symbols of an expression are taken.
use Rattle.std.specs.Prelude.{◌≡◌, ℕ, ◌+◌, ◌<◌, ℤ, List, [], ◌∷◌, ◌++◌, length, Option, None, Some}
use Rattle.regex_build.specs.declared.fragment.Fragment.{Fragment}
use Rattle.regex_build.specs.declared.postfix_symbol.PostfixSymbol.{PostfixSymbol}
use Rattle.regex_build.specs.Expression.{Expression, occurrences_in}
use Rattle.regex_build.specs.Postfix.{after_symbol}
use Rattle.regex_build.specs.Fragments.{IsFragment, IsOccurrence}

-- The fragments of the expressions that wait, the last one on top: each begins at the place after the one before it, and the number is the
-- next place.
abbrev pub AreWaiting : List (Expression (List ℤ)) → List Fragment → ℕ → List (List ℕ) → Type 0
AreWaiting [] fragments next rows = (fragments ≡ []) × (next ≡ 1)
AreWaiting (e ∷ stack) fragments next rows =
    (others : List Fragment) × (fragment : Fragment) × (n : ℕ) × (fragments ≡ others ++ fragment ∷ []) × (next ≡ n + length (occurrences_in e)) × IsFragment n e fragment rows × AreWaiting stack others n rows

-- each place has a list
abbrev pub Waits : List (Expression (List ℤ)) → List Fragment → List (List ℕ) → Type 0
Waits stack fragments rows = AreWaiting stack fragments (length rows) rows

-- some expressions wait
abbrev pub IsWaiting : List Fragment → List (List ℕ) → Type 0
IsWaiting fragments rows = (stack : List (Expression (List ℤ))) × Waits stack fragments rows

-- one more symbol was taken
abbrev pub Takes : List Fragment → List (List ℕ) → PostfixSymbol → List Fragment → List (List ℕ) → Type 0
Takes old rows symbol new more = (stack : List (Expression (List ℤ))) → Waits stack old rows → Waits (after_symbol stack symbol) new more

-- one more occurrence waits
abbrev pub AddsOccurrence : List Fragment → List (List ℕ) → List Fragment → List (List ℕ) → Type 0
AddsOccurrence old rows new more = (stack : List (Expression (List ℤ))) (e : Expression (List ℤ)) → IsOccurrence e → Waits stack old rows → Waits (e ∷ stack) new more

-- the last two are taken off, if there are two
abbrev pub SplitsTwo : List Fragment → List Fragment → Option (Fragment × Fragment) → Type 0
SplitsTwo old new None = (new ≡ old) × (length old < 2)
SplitsTwo old new (Some two) = old ≡ (new ++ two.0 ∷ []) ++ two.1 ∷ []
