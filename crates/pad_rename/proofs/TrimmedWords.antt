-- Words without their trailing zeros, from the first letter on.
use Rattle.std.proofs.Common.{◌≡◌, ℕ, zero, suc, List, [], ◌∷◌, ◌++◌, reverse, refl, sym, ap, ◌∙◌}
use Rattle.std.proofs.lemmas.List.{reverse-append}
use Rattle.digit_tuple.specs.Paddings.{without_zeros, strip}
use Rattle.digit_tuple.specs.declared.direction.Direction.TheVariants.{Lsd}
use Rattle.digit_tuple.proofs.PaddingLemmas.{reverse-cons}

-- a letter before a word without trailing zeros
abbrev pub with_prefix : ℕ → List ℕ → List ℕ
with_prefix zero [] = []
with_prefix zero (b ∷ u) = 0 ∷ b ∷ u
with_prefix (suc a) u = suc a ∷ u

-- the word without its trailing zeros, from the first letter on
abbrev pub trimmed : List ℕ → List ℕ
trimmed [] = []
trimmed (a ∷ w) = with_prefix a (trimmed w)

-- a letter after a word without leading zeros
abbrev pushed : List ℕ → ℕ → List ℕ
pushed [] a = without_zeros (a ∷ [])
pushed (b ∷ u) a = b ∷ (u ++ a ∷ [])

without_zeros-push : (w : List ℕ) (a : ℕ) → without_zeros (w ++ a ∷ []) ≡ pushed (without_zeros w) a
without_zeros-push [] a = refl
without_zeros-push (zero ∷ w) a = without_zeros-push w a
without_zeros-push (suc b ∷ w) a = refl

prefix_of_push : (a b : ℕ) (u : List ℕ) → a ∷ (u ++ b ∷ []) ≡ with_prefix a (u ++ b ∷ [])
prefix_of_push zero b [] = refl
prefix_of_push zero b (c ∷ u) = refl
prefix_of_push (suc a) b u = refl

prefix_of_pushed : (u : List ℕ) (a : ℕ) → reverse (pushed u a) ≡ with_prefix a (reverse u)
prefix_of_pushed [] zero = refl
prefix_of_pushed [] (suc a) = refl
prefix_of_pushed (b ∷ u) a =
    reverse-append (b ∷ u) (a ∷ []) ∙ ap (λ (v : List ℕ). a ∷ v) (reverse-cons b u) ∙ prefix_of_push a b (reverse u) ∙ ap (with_prefix a) (sym (reverse-cons b u))

pub strip-trimmed : (w : List ℕ) → strip Lsd w ≡ trimmed w
strip-trimmed [] = refl
strip-trimmed (a ∷ w) =
    ap (λ (u : List ℕ). reverse (without_zeros u)) (reverse-cons a w) ∙ ap reverse (without_zeros-push (reverse w) a) ∙ prefix_of_pushed (without_zeros (reverse w)) a ∙ ap (with_prefix a) (strip-trimmed w)
