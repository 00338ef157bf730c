-- Transitions that lead by one tuple to two states.
use Rattle.std.specs.Prelude.{◌≡◌, ◌↔◌, ℕ, ◌==◌, Bool, true, false, ◌&&◌, not, List, [], ◌∷◌, ◌++◌, Option, None, Some}
use Rattle.std.specs.List.{AllZip, list_all}
use Rattle.dfa_reading.specs.Listed.{ListedLine, TakesDigit}

-- some digit is taken by both
abbrev pub share_digit : Option ℕ → Option ℕ → Bool
share_digit None other = true
share_digit (Some digit) None = true
share_digit (Some digit) (Some other) = digit == other

-- some tuple is taken by both, digit by digit
abbrev pub share_tuple : List (Option ℕ) → List (Option ℕ) → Bool
share_tuple [] [] = true
share_tuple (digit ∷ digits) (other ∷ others) = share_digit digit other && share_tuple digits others
share_tuple _ _ = false

-- the tuple is taken, whatever the sizes of the tracks
abbrev pub TakesTuple : List (Option ℕ) → List ℕ → Type 0
TakesTuple digits tuple = AllZip TakesDigit digits tuple

-- two lists of digits share a tuple if and only if both take one
abbrev pub SharedTuplesAreTaken : Type 0
SharedTuplesAreTaken = (digits others : List (Option ℕ)) → (share_tuple digits others ≡ true) ↔ ((tuple : List ℕ) × TakesTuple digits tuple × TakesTuple others tuple)

-- all of the numbers are one
abbrev pub are_one : List ℕ → Bool
are_one [] = true
are_one (n ∷ numbers) = list_all (λ m. m == n) numbers

-- from one state both lead by some tuple, and not all targets are one
abbrev pub are_in_conflict : ListedLine → ListedLine → Bool
are_in_conflict line other = line.state == other.state && (share_tuple line.digits other.digits && not (are_one (line.targets ++ other.targets)))

-- no two of the transitions are in conflict, and none is with itself
abbrev pub are_without_conflict : List (ℕ × ListedLine) → Bool
are_without_conflict lines = list_all (λ line. list_all (λ other. not (are_in_conflict line.1 other.1)) lines) lines
