-- Rows of counts, one for each length.
use Rattle.std.proofs.Common.{◌≡◌, ℕ, zero, suc, ◌+◌, ◌<◌, ◌≤◌, List, [], ◌∷◌, ◌++◌, length, get_or, Vec, Global, Some, ◌⊎◌, inl, inr, refl, ap, sym, ◌∙◌, subst, arith}
use Rattle.std.specs.List.{slice_get}
use Rattle.std.proofs.lemmas.Bool.{cases_lt}
use Rattle.std.proofs.lemmas.List.{get_or_push, get_or_append_left}
use Rattle.std.proofs.lemmas.Option.{none-some, same_Some}
use Rattle.digit_tuple.specs.declared.direction.Direction.{Direction}
use Rattle.digit_tuple.specs.Deterministic.{Automaton}
use Rattle.constants.specs.WordCounts.{AreCounts, AreRows}

-- one entry more
pub entries-push : {X : Type 0} (f : ℕ → X) (d : X) (xs : List X) (k : ℕ) (x : X) → length xs ≡ k → ((q : ℕ) → q < k → get_or xs q d ≡ f q) → x ≡ f k
    → (q : ℕ) → q < k + 1 → get_or (xs ++ x ∷ []) q d ≡ f q
entries-push f d xs k x long before here q within = by (cases_lt q k)
  where
    by : (q < k) ⊎ (k ≤ q) → get_or (xs ++ x ∷ []) q d ≡ f q
    by (inl less) = get_or_append_left xs (x ∷ []) d q (omega (arith, less, long)) ∙ before q less
    by (inr last) = let same : k ≡ q = omega (arith, last, within) in get_or_push xs x d q (long ∙ same) ∙ here ∙ ap f same

get-prefix : {X : Type 0} (xs : List X) (y : X) (i : ℕ) (x : X) → slice_get xs i ≡ Some x → slice_get (xs ++ y ∷ []) i ≡ Some x
get-prefix [] y i x is = absurd (none-some x is)
get-prefix (z ∷ xs) y zero x is = is
get-prefix (z ∷ xs) y (suc i) x is = get-prefix xs y i x is

get-last : {X : Type 0} (xs : List X) (y : X) → slice_get (xs ++ y ∷ []) (length xs) ≡ Some y
get-last [] y = refl
get-last (z ∷ xs) y = get-last xs y

get-push : {X : Type 0} (xs : List X) (y : X) (i : ℕ) (x : X) → slice_get (xs ++ y ∷ []) i ≡ Some x → (slice_get xs i ≡ Some x) ⊎ ((i ≡ length xs) × (y ≡ x))
get-push [] y zero x is = inr (refl, same_Some y x is)
get-push [] y (suc i) x is = absurd (none-some x is)
get-push (z ∷ xs) y zero x is = inl is
get-push (z ∷ xs) y (suc i) x is = by (get-push xs y i x is)
  where
    by : (slice_get xs i ≡ Some x) ⊎ ((i ≡ length xs) × (y ≡ x)) → (slice_get xs i ≡ Some x) ⊎ ((suc i ≡ suc (length xs)) × (y ≡ x))
    by (inl early) = inl early
    by (inr last) = inr (ap suc last.0, last.1)

-- a row more
pub rows-push : (direction : Direction) (a : Automaton) (rows : List (Vec ℕ Global)) (row : Vec ℕ Global) → AreRows direction a rows → AreCounts direction a (length rows) row.items
    → AreRows direction a (rows ++ row ∷ [])
rows-push direction a rows row are last n r is = by (get-push rows row n r is)
  where
    by : (slice_get rows n ≡ Some r) ⊎ ((n ≡ length rows) × (row ≡ r)) → AreCounts direction a n r.items
    by (inl early) = are n r early
    by (inr here) = subst (λ (v : Vec ℕ Global). AreCounts direction a n v.items) here.1 (subst (λ k. AreCounts direction a k row.items) (sym here.0) last)

-- all rows but the last, and that
pub rows-prefix : (direction : Direction) (a : Automaton) (rows : List (Vec ℕ Global)) (row : Vec ℕ Global) → AreRows direction a (rows ++ row ∷ []) → AreRows direction a rows
rows-prefix direction a rows row are n r is = are n r (get-prefix rows row n r is)

pub rows-last : (direction : Direction) (a : Automaton) (rows : List (Vec ℕ Global)) (row : Vec ℕ Global) → AreRows direction a (rows ++ row ∷ []) → AreCounts direction a (length rows) row.items
rows-last direction a rows row are = are (length rows) row (get-last rows row)
