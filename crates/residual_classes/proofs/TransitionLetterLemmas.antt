-- The letters of transitions in a flat table.
use Rattle.std.proofs.Common.{◌≡◌, ℕ, ◌+◌, ◌*◌, ◌<◌, ◌≤◌, List, [], ◌∷◌, ◌++◌, map, length, get_or, zero, suc, Option, None, Some, refl, sym, ap, ◌∙◌, arith}
use Rattle.std.specs.List.{All, sum_by}
use Rattle.std.specs.Option.{IfSome}
use Rattle.std.proofs.lemmas.List.{length-map, length-append, get_or-map, get_or_append_left, get_or-append_right}
use Rattle.std.proofs.Math.Nat.{suc-mul}
use Rattle.std.proofs.lemmas.List.Sums.{sum_by-cons, sum_by-le}
use Rattle.digit_tuple.specs.declared.transitions.Transition.{Transition}
use Rattle.digit_tuple.specs.Deterministic.{Automaton, State, IsRow, IsTable, transitions_of, letters_of, no_state, states_of}
use Rattle.digit_tuple.specs.TransitionCounts.{transition_count}
use Rattle.digit_tuple.proofs.DfaLemmas.{row_at}
use Rattle.digit_tuple.proofs.RowLemmas.{IsFrom, IsFrom-few, IsFrom-row}
use Rattle.residual_classes.specs.Classes.{class_of}
use Rattle.residual_classes.specs.TransitionLetters.{letter_at, with_letters}

-- each transition of a row is by the letter of its place
abbrev pub IsInPlace : List Transition → Type 0
IsInPlace row = (k : ℕ) (z : Transition) → k < length row → (get_or row k z).letter ≡ k

-- transitions from a letter on, as many as there are letters from it on
in_place-from : (letters from : ℕ) (es : List Transition) → IsFrom letters from es → letters ≤ from + length es → (k : ℕ) (z : Transition) → k < length es → (get_or es k z).letter ≡ from + k
in_place-from letters from [] row full k z within = absurd (omega arith)
in_place-from letters from (e ∷ es) row full zero z within = let few = IsFrom-few letters (e.letter + 1) es (omega (arith, row.1)) row.2 in omega (arith, few, full, row.0)
in_place-from letters from (e ∷ es) row full (suc k) z within =
    let few = IsFrom-few letters (e.letter + 1) es (omega (arith, row.1)) row.2 in
    let rest = in_place-from letters (e.letter + 1) es row.2 (omega (arith, full, row.0)) k z (omega arith) in
    omega (arith, rest, few, full, row.0)

row_from : (letters states : ℕ) (es : List Transition) → IsRow letters states es → IsFrom letters 0 es
row_from letters states es row = IsFrom-row letters 0 es (λ k e within. (row.in_range k e within).0) row.ascending (λ k e within. omega arith)

-- where numbers are at most one that makes their sum, each is that one
each_most : (f : State → ℕ) (most : ℕ) (xs : List State) → All (λ x. f x ≤ most) xs → sum_by f xs ≡ length xs * most → All (λ x. f x ≡ most) xs
each_most f most [] few is k z within = absurd (omega arith)
each_most f most (x ∷ xs) few is k z within = by k (λ i low. each_most f most xs rest_few rest_is i z low) within
  where
    rest_few : All (λ y. f y ≤ most) xs
    rest_few i y low = few (suc i) y (omega arith)

    all : f x + sum_by f xs ≡ length xs * most + most
    all = sym (sum_by-cons f x xs) ∙ is ∙ suc-mul (length xs) most

    rest : sum_by f xs ≤ length xs * most
    rest = sum_by-le f most xs rest_few

    rest_is : sum_by f xs ≡ length xs * most
    rest_is = let first : f x ≤ most = few 0 x (omega arith) in omega (arith, all, rest, first)

    by : (i : ℕ) → ((j : ℕ) → j < length xs → f (get_or xs j z) ≡ most) → i < length (x ∷ xs) → f (get_or (x ∷ xs) i z) ≡ most
    by zero each low = omega (arith, all, rest_is)
    by (suc i) each low = each i (omega arith)

-- where there are as many transitions as states and letters make, each transition is by the letter of its place
pub IsInPlace-full : (d : Automaton) → IsTable (letters_of d) d.states → transition_count d ≡ states_of d * letters_of d → (q : ℕ) → q < states_of d → IsInPlace (transitions_of d q)
IsInPlace-full d table is q less k z within = omega (arith, in_place-from (letters_of d) 0 (transitions_of d q) (row_from (letters_of d) (states_of d) (transitions_of d q) (row_at d q table less)) (omega (arith, full)) k z within)
  where
    few : All (λ (s : State). length s.transitions ≤ letters_of d) d.states
    few i s low = let minimal = IsFrom-few (letters_of d) 0 (get_or d.states i s).transitions (omega arith) (row_from (letters_of d) (states_of d) (get_or d.states i s).transitions (table.part.rows i s low)) in omega (arith, minimal)

    full : length (transitions_of d q) ≡ letters_of d
    full = each_most (λ (s : State). length s.transitions) (letters_of d) d.states few is q no_state less

module _ (letters : Option (List ℕ)) (targets : List ℕ) (es : List Transition) (same : IfSome letters (λ list. length list ≡ length targets)) where
  -- there are as many letters as targets
  pub same_with : IfSome (with_letters es letters) (λ list. length list ≡ length (targets ++ map (λ (e : Transition). e.target) es))
  same_with = by letters same
    where
      by : (ls : Option (List ℕ)) → IfSome ls (λ list. length list ≡ length targets) → IfSome (with_letters es ls) (λ list. length list ≡ length (targets ++ map (λ (e : Transition). e.target) es))
      by None _ = tt
      by (Some list) is = omega (arith, is, length-append list (map (λ (e : Transition). e.letter) es), length-map es (λ (e : Transition). e.letter), length-append targets (map (λ (e : Transition). e.target) es), length-map es (λ (e : Transition). e.target))

  -- the letters before stay
  pub letter_before : (start place : ℕ) → place < length targets → letter_at letters start place ≡ letter_at (with_letters es letters) start place
  letter_before start place low = by letters same
    where
      by : (ls : Option (List ℕ)) → IfSome ls (λ list. length list ≡ length targets) → letter_at ls start place ≡ letter_at (with_letters es ls) start place
      by None _ = refl
      by (Some list) is = sym (get_or_append_left list (map (λ (e : Transition). e.letter) es) 0 place (omega (arith, low, is)))

  -- and those of the state come after them
  pub letter_after : (letters ≡ None → IsInPlace es) → (k : ℕ) (z : Transition) → k < length es → (get_or es k z).letter ≡ letter_at (with_letters es letters) (length targets) (length targets + k)
  letter_after full k z low = by letters same full
    where
      by : (ls : Option (List ℕ)) → IfSome ls (λ list. length list ≡ length targets) → (ls ≡ None → IsInPlace es) → (get_or es k z).letter ≡ letter_at (with_letters es ls) (length targets) (length targets + k)
      by None _ each = each refl k z low ∙ omega arith
      by (Some list) is _ =
          sym (get_or-append_right list (map (λ (e : Transition). e.letter) es) (length list) (length targets + k) 0 refl (omega (arith, is))
          ∙ ap (class_of (map (λ (e : Transition). e.letter) es)) (omega (arith, is)) ∙ get_or-map (λ (e : Transition). e.letter) es k z 0 low)

-- letters that are not listed were not before
pub with_none : (es : List Transition) (letters : Option (List ℕ)) → with_letters es letters ≡ None → letters ≡ None
with_none es None is = refl
with_none es (Some list) is = absurd cc
