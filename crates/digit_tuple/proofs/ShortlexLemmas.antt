-- The shortlex order of words.
use Rattle.std.proofs.Common.{◌≡◌, ℕ, ◌<◌, ◌⊎◌, inl, inr, List, [], ◌∷◌, ◌++◌, refl, arith}
use Rattle.std.proofs.lemmas.List.{length_push}
use Rattle.digit_tuple.specs.Shortlex.{IsBefore, IsLetterwiseBefore}

pub IsLetterwiseBefore-trans : (u v w : List ℕ) → IsLetterwiseBefore u v → IsLetterwiseBefore v w → IsLetterwiseBefore u w
IsLetterwiseBefore-trans [] v w before after = absurd before
IsLetterwiseBefore-trans (a ∷ u) [] w before after = absurd before
IsLetterwiseBefore-trans (a ∷ u) (b ∷ v) [] before after = absurd after
IsLetterwiseBefore-trans (a ∷ u) (b ∷ v) (c ∷ w) before after = by before after (IsLetterwiseBefore-trans u v w)
  where
    by : (a < b) ⊎ ((a ≡ b) × IsLetterwiseBefore u v) → (b < c) ⊎ ((b ≡ c) × IsLetterwiseBefore v w)
        → (IsLetterwiseBefore u v → IsLetterwiseBefore v w → IsLetterwiseBefore u w) → (a < c) ⊎ ((a ≡ c) × IsLetterwiseBefore u w)
    by (inl x) (inl y) rest = inl (omega arith)
    by (inl x) (inr y) rest = inl (omega (arith, x, y.0))
    by (inr x) (inl y) rest = inl (omega (arith, x.0, y))
    by (inr x) (inr y) rest = inr (omega (arith, x.0, y.0), rest x.1 y.1)

pub IsBefore-trans : (u v w : List ℕ) → IsBefore u v → IsBefore v w → IsBefore u w
IsBefore-trans u v w (inl x) (inl y) = inl (omega arith)
IsBefore-trans u v w (inl x) (inr y) = inl (omega (arith, x, y.0))
IsBefore-trans u v w (inr x) (inl y) = inl (omega (arith, x.0, y))
IsBefore-trans u v w (inr x) (inr y) = inr (omega (arith, x.0, y.0), IsLetterwiseBefore-trans u v w x.1 y.1)

-- letters put after change nothing
pub IsLetterwiseBefore-push : (u v : List ℕ) (a b : ℕ) → IsLetterwiseBefore u v → IsLetterwiseBefore (u ++ a ∷ []) (v ++ b ∷ [])
IsLetterwiseBefore-push [] v a b before = absurd before
IsLetterwiseBefore-push (x ∷ u) [] a b before = absurd before
IsLetterwiseBefore-push (x ∷ u) (y ∷ v) a b (inl less) = inl less
IsLetterwiseBefore-push (x ∷ u) (y ∷ v) a b (inr same) = inr (same.0, IsLetterwiseBefore-push u v a b same.1)

pub IsBefore-push : (u v : List ℕ) (a b : ℕ) → IsBefore u v → IsBefore (u ++ a ∷ []) (v ++ b ∷ [])
IsBefore-push u v a b (inl less) = inl (omega (arith, length_push u a, length_push v b))
IsBefore-push u v a b (inr same) = inr (omega (arith, same.0, length_push u a, length_push v b), IsLetterwiseBefore-push u v a b same.1)

-- of two letters after one word the smaller comes first
pub IsLetterwiseBefore-last : (u : List ℕ) (a b : ℕ) → a < b → IsLetterwiseBefore (u ++ a ∷ []) (u ++ b ∷ [])
IsLetterwiseBefore-last [] a b less = inl less
IsLetterwiseBefore-last (x ∷ u) a b less = inr (refl, IsLetterwiseBefore-last u a b less)

pub IsBefore-last : (u : List ℕ) (a b : ℕ) → a < b → IsBefore (u ++ a ∷ []) (u ++ b ∷ [])
IsBefore-last u a b less = inr (omega (arith, length_push u a, length_push u b), IsLetterwiseBefore-last u a b less)

pub IsLetterwiseBefore-irreflexive : (u : List ℕ) → ¬ IsLetterwiseBefore u u
IsLetterwiseBefore-irreflexive [] before = before
IsLetterwiseBefore-irreflexive (a ∷ u) (inl less) = omega arith
IsLetterwiseBefore-irreflexive (a ∷ u) (inr same) = IsLetterwiseBefore-irreflexive u same.1

pub IsBefore-irreflexive : (u : List ℕ) → ¬ IsBefore u u
IsBefore-irreflexive u (inl less) = omega arith
IsBefore-irreflexive u (inr same) = IsLetterwiseBefore-irreflexive u same.1
