-- Words without 11, also read from the other end.
use Rattle.std.proofs.Common.{◌≡◌, ℕ, zero, suc, ◌+◌, ◌<◌, false, not, ◌&&◌, nat_lt, List, [], ◌∷◌, ◌++◌, reverse, refl, sym, ap, ◌∙◌, subst, append_assoc, arith, IsTrue}
use Rattle.std.proofs.lemmas.Bool.{false≢true, and_right}
use Rattle.std.proofs.lemmas.List.{reverse-append, reverse-reverse}
use Rattle.digit_tuple.specs.Letters.{IsWord}
use Rattle.digit_tuple.specs.Paddings.{in_order}
use Rattle.digit_tuple.specs.declared.direction.Direction.{Direction}
use Rattle.digit_tuple.specs.declared.direction.Direction.TheVariants.{Msd, Lsd}
use Rattle.digit_tuple.proofs.PaddingLemmas.{IsWord-reverse}
use Rattle.digit_tuple.proofs.TruthLemmas.{same_tests}
use Rattle.fib_system.specs.Fibonacci.{is_sparse, begins_with_1, Has11, WordsAreWithout11}
use Rattle.fib_system.specs.FibonacciLaws.{sparse_over}

-- a word with 11 is none of the system's
with_11 : (u v : List ℕ) → is_sparse (u ++ 1 ∷ 1 ∷ v) ≡ false
with_11 [] v = refl
with_11 (zero ∷ u) v = with_11 u v
with_11 (suc zero ∷ u) v = and_right (not (begins_with_1 (u ++ 1 ∷ 1 ∷ v))) (is_sparse (u ++ 1 ∷ 1 ∷ v)) (with_11 u v)
with_11 (suc (suc a) ∷ u) v = refl

without_11 : (w : List ℕ) → IsTrue (is_sparse w) → ¬ Has11 w
without_11 w valid has = false≢true (sym (with_11 has.0 has.1) ∙ sym (ap is_sparse has.2) ∙ valid)

-- a digit more keeps 11
has_11-cons : (a : ℕ) (w : List ℕ) → Has11 w → Has11 (a ∷ w)
has_11-cons a w has = (a ∷ has.0, has.1, ap (λ (u : List ℕ). a ∷ u) has.2)

sparse_from : (w : List ℕ) → IsWord 2 w → ¬ Has11 w → IsTrue (is_sparse w)
sparse_from [] over none = refl
sparse_from (zero ∷ w) over none = sparse_from w over.1 (λ has. none (has_11-cons 0 w has))
sparse_from (suc zero ∷ []) over none = refl
sparse_from (suc zero ∷ zero ∷ w) over none = sparse_from (zero ∷ w) over.1 (λ has. none (has_11-cons 1 (zero ∷ w) has))
sparse_from (suc zero ∷ suc zero ∷ w) over none = absurd (none ([], w, refl))
sparse_from (suc zero ∷ suc (suc b) ∷ w) over none = absurd (omega (arith, over.1.0))
sparse_from (suc (suc a) ∷ w) over none = absurd (omega (arith, over.0))

pub words_without_11 : WordsAreWithout11
words_without_11 w = (λ valid. (sparse_over w valid, without_11 w valid), λ both. sparse_from w both.0 both.1)

-- 11 is the same from the other end
has_11-reverse : (w : List ℕ) → Has11 (reverse w) → Has11 w
has_11-reverse w has = (
  reverse has.1,
  reverse has.0,
  sym (reverse-reverse w)
      ∙ ap reverse has.2
      ∙ reverse-append has.0 (1 ∷ 1 ∷ has.1)
      ∙ ap (λ (u : List ℕ). u ++ reverse has.0) (reverse-append (1 ∷ 1 ∷ []) has.1)
      ∙ append_assoc (reverse has.1) (1 ∷ 1 ∷ []) (reverse has.0),
)

turned : (w : List ℕ) → IsTrue (is_sparse w) → IsTrue (is_sparse (reverse w))
turned w valid = sparse_from (reverse w) (IsWord-reverse 2 w (sparse_over w valid)) (λ has. without_11 w valid (has_11-reverse w has))

pub sparse_in_order : (direction : Direction) (w : List ℕ) → is_sparse (in_order direction w) ≡ is_sparse w
sparse_in_order Msd w = refl
sparse_in_order Lsd w = same_tests (is_sparse (reverse w)) (is_sparse w) (λ valid. subst (λ (u : List ℕ). IsTrue (is_sparse u)) (reverse-reverse w) (turned (reverse w) valid), turned w)

-- a digit after a last one
pub sparse_follow : (last a : ℕ) (w : List ℕ) → last < 2 → a < 2 → is_sparse (last ∷ a ∷ w) ≡ (nat_lt (last + a) 2 && is_sparse (a ∷ w))
sparse_follow zero zero w one two = refl
sparse_follow zero (suc zero) w one two = refl
sparse_follow (suc zero) zero w one two = refl
sparse_follow (suc zero) (suc zero) w one two = refl
sparse_follow (suc (suc last)) a w one two = absurd (omega (arith, one))
sparse_follow zero (suc (suc a)) w one two = absurd (omega (arith, two))
sparse_follow (suc zero) (suc (suc a)) w one two = absurd (omega (arith, two))
