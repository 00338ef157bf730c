-- Rows of transitions in order: whether a letter is missing.
use Rattle.std.proofs.Common.{◌≡◌, ◌≢◌, ℕ, zero, suc, ◌+◌, ◌<◌, ◌≤◌, List, [], ◌∷◌, length, None, Some, ◌⊎◌, inl, inr, refl, ◌∙◌, arith}
use Rattle.std.specs.List.{All, AllPairs}
use Rattle.std.proofs.lemmas.Bool.{cases_lt}
use Rattle.digit_tuple.specs.declared.transitions.Transition.{Transition}
use Rattle.digit_tuple.specs.Deterministic.{target_by, IsByEarlier}
use Rattle.digit_tuple.proofs.DfaLemmas.{target_by-other, target_by-first, target_by-none}

-- the transitions are by letters from one on, in order
abbrev pub IsFrom : ℕ → ℕ → List Transition → Type 0
IsFrom letters from [] = Unit {0}
IsFrom letters from (e ∷ es) = (from ≤ e.letter) × (e.letter < letters) × IsFrom letters (e.letter + 1) es

pub IsFrom-row : (letters from : ℕ) (es : List Transition) → All (λ e. e.letter < letters) es → AllPairs IsByEarlier es → All (λ e. from ≤ e.letter) es → IsFrom letters from es
IsFrom-row letters from [] range ascending above = tt
IsFrom-row letters from (e ∷ es) range ascending above = (
  above 0 e (omega arith),
  range 0 e (omega arith),
  IsFrom-row letters (e.letter + 1) es (λ k d within. range (suc k) d (omega arith)) (λ i j d before within. ascending (suc i) (suc j) d (omega arith) (omega arith))
      (λ k d within. let less = ascending 0 (suc k) d (omega arith) (omega arith) in omega (arith, less)),
)

-- all letters of such transitions are from the first on
pub IsFrom-above : (letters from : ℕ) (es : List Transition) → IsFrom letters from es → All (λ e. from ≤ e.letter) es
IsFrom-above letters from [] row k d within = absurd (omega arith)
IsFrom-above letters from (e ∷ es) row zero d within = row.0
IsFrom-above letters from (e ∷ es) row (suc k) d within = let more = IsFrom-above letters (e.letter + 1) es row.2 k d (omega arith) in omega (arith, more, row.0)

-- so there are no more of them than letters
pub IsFrom-few : (letters from : ℕ) (es : List Transition) → from ≤ letters → IsFrom letters from es → from + length es ≤ letters
IsFrom-few letters from [] low row = omega arith
IsFrom-few letters from (e ∷ es) low row = let rest = IsFrom-few letters (e.letter + 1) es (omega (arith, row.1)) row.2 in omega (arith, rest, row.0)

-- a letter has no transition where there are fewer transitions than letters
pub gap_of : (letters from : ℕ) (es : List Transition) → IsFrom letters from es → from + length es < letters → (a : ℕ) × (from ≤ a) × (a < letters) × (target_by es a ≡ None)
gap_of letters from [] row few = (from, omega arith, omega arith, refl)
gap_of letters from (e ∷ es) row few = by (cases_lt from e.letter) (λ short. gap_of letters (e.letter + 1) es row.2 short)
  where
    by : (from < e.letter) ⊎ (e.letter ≤ from) → (e.letter + 1 + length es < letters → (a : ℕ) × (e.letter + 1 ≤ a) × (a < letters) × (target_by es a ≡ None))
        → (a : ℕ) × (from ≤ a) × (a < letters) × (target_by (e ∷ es) a ≡ None)
    by (inl less) rest = (from, omega arith, omega (arith, row.1), target_by-none (e ∷ es) from other)
      where
        other : All (λ f. f.letter ≢ from) (e ∷ es)
        other zero d within same = omega (arith, same)
        other (suc k) d within same = let more = IsFrom-above letters (e.letter + 1) es row.2 k d (omega arith) in omega (arith, same, more)
    by (inr same) rest =
        let found = rest (omega (arith, row.0)) in
        (found.0, omega (arith, found.1, row.0), found.2, target_by-other e es found.0 (λ is. omega (arith, is, found.1)) ∙ found.3)

-- and each letter has one where there are as many
pub full_of : (letters from : ℕ) (es : List Transition) → IsFrom letters from es → letters ≤ from + length es → (a : ℕ) → from ≤ a → a < letters → (t : ℕ) × (target_by es a ≡ Some t)
full_of letters from [] row full a low high = absurd (omega arith)
full_of letters from (e ∷ es) row full a low high = by (cases_lt a (e.letter + 1)) (λ more all. full_of letters (e.letter + 1) es row.2 all a more high)
  where
    fits : e.letter + 1 + length es ≤ letters
    fits = IsFrom-few letters (e.letter + 1) es (omega (arith, row.1)) row.2

    by : (a < e.letter + 1) ⊎ (e.letter + 1 ≤ a) → (e.letter + 1 ≤ a → letters ≤ e.letter + 1 + length es → (t : ℕ) × (target_by es a ≡ Some t)) → (t : ℕ) × (target_by (e ∷ es) a ≡ Some t)
    by (inl less) rest = (e.target, target_by-first e es a (omega (arith, fits, row.0)))
    by (inr more) rest = let found = rest more (omega (arith, row.0)) in (found.0, target_by-other e es a (λ is. omega (arith, is)) ∙ found.1)
