-- Base k is a numeration system.
use Rattle.std.specs.Prelude.{◌≡◌, ℕ, zero, suc, ◌<◌, ◌≤◌, Bool, ◌&&◌, nat_lt, List, [], ◌∷◌, length, IsTrue}
use Rattle.std.proofs.Common.{refl, ap, sym, ◌∙◌, arith}
use Rattle.std.proofs.lemmas.Bool.{lt-ltb, ltb-true, and_parts}
use Rattle.digit_tuple.specs.Letters.{IsWord}
use Rattle.digit_tuple.specs.Paddings.{zeros}
use Rattle.numeration.specs.Systems.{IsSystem}
use Rattle.base_k.specs.Positional.{are_digits, base}

-- a word is valid if and only if it is over the digits
pub digits_over : (k : ℕ) (w : List ℕ) → IsTrue (are_digits k w) → IsWord k w
digits_over k [] valid = tt
digits_over k (a ∷ w) valid =
    let both = and_parts (nat_lt a k) (are_digits k w) valid in
    (ltb-true a k both.0, digits_over k w both.1)

-- one more digit, the first
pub digits_after : (k a : ℕ) (w : List ℕ) → a < k → are_digits k (a ∷ w) ≡ are_digits k w
digits_after k a w small = ap (λ (t : Bool). t && are_digits k w) (lt-ltb a k small)

pub over_digits : (k : ℕ) (w : List ℕ) → IsWord k w → IsTrue (are_digits k w)
over_digits k [] over = refl
over_digits k (a ∷ w) over = digits_after k a w over.0 ∙ over_digits k w over.1

zeros_over : (k n : ℕ) → 0 < k → IsTrue (are_digits k (zeros n))
zeros_over k zero some = refl
zeros_over k (suc n) some = digits_after k 0 (zeros n) some ∙ zeros_over k n some

length-zeros : (n : ℕ) → length (zeros n) ≡ n
length-zeros zero = refl
length-zeros (suc n) = ap suc (length-zeros n)

pub base_is_system : (k : ℕ) → 2 ≤ k → IsSystem (base k)
base_is_system k some = record {
  over = digits_over k;
  empty = refl;
  zeros = λ w. (λ valid. sym (first w) ∙ valid, λ valid. first w ∙ valid);
  endless = λ n. (1 ∷ zeros n, omega (arith, length-zeros n), digits_after k 1 (zeros n) (omega (arith, some)) ∙ zeros_over k n (omega (arith, some)), refl);
}
  where
    first : (w : List ℕ) → are_digits k (0 ∷ w) ≡ are_digits k w
    first w = digits_after k 0 w (omega (arith, some))
