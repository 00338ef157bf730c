-- In base k the rank of a word is its positional value.
use Rattle.std.proofs.Common.{◌≡◌, ℕ, zero, suc, ◌+◌, ◌*◌, ◌^◌, ◌<◌, ◌≤◌, Bool, true, false, ◌&&◌, nat_lt, List, [], ◌∷◌, ◌++◌, map, reverse, length, refl, sym, ap, ◌∙◌, arith}
use Rattle.std.proofs.Math.Nat.{pow-zero, pow-suc}
use Rattle.std.proofs.lemmas.List.{length-append, map-append, reverse-append}
use Rattle.digit_tuple.specs.Letters.{IsWord}
use Rattle.digit_tuple.specs.Paddings.{in_order}
use Rattle.digit_tuple.specs.declared.direction.Direction.{Direction}
use Rattle.digit_tuple.specs.declared.direction.Direction.TheVariants.{Msd, Lsd}
use Rattle.numeration.specs.Words.{rank}
use Rattle.numeration.specs.Systems.{IsRepresentation}
use Rattle.numeration.proofs.BelowLemmas.{size, below, after, led_below, size-suc, below-cons}
use Rattle.numeration.proofs.RankLemmas.{rank_is_below}
use Rattle.base_k.specs.Positional.{are_digits, base, value}
use Rattle.base_k.specs.BaseLaws.{digits_after, over_digits, base_is_system}

-- what follows a digit is any word
pub after_digits : (k a : ℕ) → a < k → after (are_digits k) a ≡ are_digits k
after_digits k a small = λ i w. digits_after k a w small i

-- the words of a length that follow lesser digits than b are b times those of the length
pub led_is_product : (k n b : ℕ) → b ≤ k → led_below k (are_digits k) n b ≡ b * size k (are_digits k) n
led_is_product k n zero within = omega arith
led_is_product k n (suc b) within =
    let rest : led_below k (are_digits k) n b ≡ b * size k (are_digits k) n = led_is_product k n b (omega (arith, within)) in
    let last : size k (after (are_digits k) b) n ≡ size k (are_digits k) n = ap (λ (test : List ℕ → Bool). size k test n) (after_digits k b (omega (arith, within))) in
    omega (arith, rest, last)

-- there are k ^ n words of length n
pub size_is_power : (k n : ℕ) → size k (are_digits k) n ≡ k ^ n
size_is_power k zero = sym (pow-zero k)
size_is_power k (suc n) =
    let rest : k * size k (are_digits k) n ≡ k * k ^ n = ap (λ (m : ℕ). k * m) (size_is_power k n) in
    omega (arith, size-suc k (are_digits k) n, led_is_product k n k (omega arith), rest, pow-suc k n)

-- as many words of its length are less than a word as its value says
pub below_is_value : (k : ℕ) (w : List ℕ) → IsWord k w → below k (are_digits k) w ≡ value k w
below_is_value k [] over = refl
below_is_value k (b ∷ u) over =
    let rest : below k (after (are_digits k) b) u ≡ value k u = ap (λ (test : List ℕ → Bool). below k test u) (after_digits k b over.0) ∙ below_is_value k u over.1 in
    let led : led_below k (are_digits k) (length u) b ≡ b * k ^ length u = led_is_product k (length u) b (omega (arith, over.0)) ∙ ap (λ (m : ℕ). b * m) (size_is_power k (length u)) in
    omega (arith, below-cons k (are_digits k) b u over.0, led, rest)

pub rank_is_value : (k : ℕ) (w : List ℕ) → 2 ≤ k → IsWord k w → rank k (are_digits k) w ≡ value k w
rank_is_value k w some over = rank_is_below k (are_digits k) w (base_is_system k some) over ∙ below_is_value k w over

-- each word over the digits represents its value alone
pub value_represents : (k : ℕ) (w : List ℕ) (n : ℕ) → 2 ≤ k → IsWord k w → value k w ≡ n → IsRepresentation (base k) w n
value_represents k w n some over is = (over_digits k w over, rank_is_value k w some over ∙ is)

pub represented_value : (k : ℕ) (w : List ℕ) (n : ℕ) → 2 ≤ k → IsWord k w → IsRepresentation (base k) w n → value k w ≡ n
represented_value k w n some over representation = sym (rank_is_value k w some over) ∙ representation.1

-- a digit at the end
pub value_push : (k : ℕ) (w : List ℕ) (a : ℕ) → value k (w ++ a ∷ []) ≡ k * value k w + a
value_push k [] a = let unit : a * k ^ 0 ≡ a * 1 = ap (λ (n : ℕ). a * n) (pow-zero k) in omega (arith, unit)
value_push k (b ∷ w) a =
    let power : b * k ^ length (w ++ a ∷ []) ≡ b * (k ^ length w * k) =
    ap (λ (n : ℕ). b * k ^ n) (let long : length (w ++ a ∷ []) ≡ suc (length w) = omega (arith, length-append w (a ∷ [])) in long) ∙ ap (λ (n : ℕ). b * n) (pow-suc k (length w)) in
    omega (arith, power, value_push k w a)

-- the positional value of the digits, the least significant one first
abbrev pub value_up : ℕ → List ℕ → ℕ
value_up k [] = 0
value_up k (a ∷ w) = a + k * value_up k w

pub value_reverse : (k : ℕ) (f : ℕ → ℕ) (w : List ℕ) → value k (map f (reverse w)) ≡ value_up k (map f w)
value_reverse k f [] = refl
value_reverse k f (a ∷ w) =
    let turned : value k (map f (reverse (a ∷ w))) ≡ value k (map f (reverse w) ++ f a ∷ []) = ap (value k) (ap (map f) (reverse-append (a ∷ []) w) ∙ map-append f (reverse w) (a ∷ [])) in
    let rest : k * value k (map f (reverse w)) ≡ k * value_up k (map f w) = ap (λ (n : ℕ). k * n) (value_reverse k f w) in
    omega (arith, turned, value_push k (map f (reverse w)) (f a), rest)

-- the order of the digits does not matter to whether they are digits
digits_push : (k : ℕ) (w : List ℕ) (a : ℕ) → are_digits k (w ++ a ∷ []) ≡ are_digits k (a ∷ w)
digits_push k [] a = refl
digits_push k (b ∷ w) a = ap (λ (t : Bool). nat_lt b k && t) (digits_push k w a) ∙ swapped (nat_lt b k) (nat_lt a k) (are_digits k w)
  where
    swapped : (x y z : Bool) → (x && (y && z)) ≡ (y && (x && z))
    swapped true true z = refl
    swapped true false z = refl
    swapped false true z = refl
    swapped false false z = refl

digits_reverse : (k : ℕ) (w : List ℕ) → are_digits k (reverse w) ≡ are_digits k w
digits_reverse k [] = refl
digits_reverse k (a ∷ w) = ap (are_digits k) (reverse-append (a ∷ []) w) ∙ digits_push k (reverse w) a ∙ ap (λ (t : Bool). nat_lt a k && t) (digits_reverse k w)

pub digits_in_order : (direction : Direction) (k : ℕ) (w : List ℕ) → are_digits k (in_order direction w) ≡ are_digits k w
digits_in_order Msd k w = refl
digits_in_order Lsd k w = digits_reverse k w
