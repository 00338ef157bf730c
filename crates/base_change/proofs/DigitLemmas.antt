-- Values of digits, and digits of values, the least significant digit first.
use Rattle.std.proofs.Common.{◌≡◌, ℕ, zero, suc, ◌+◌, ◌*◌, ◌/◌, ◌%◌, ◌^◌, ◌<◌, ◌≤◌, List, [], ◌∷◌, ◌++◌, length, take, drop, reverse, refl, sym, ap, ◌∙◌, subst, arith}
use Rattle.std.proofs.Math.Nat.{pow-zero, pow-suc, pow-succ', mul-le-mul_left}
use Rattle.std.proofs.lemmas.List.{append_assoc, length-append, reverse-append, take-append-drop}
use Rattle.std.proofs.lemmas.Nat.{div-mul-add, mod-mul-add, div_below, mod_below}
use Rattle.digit_tuple.specs.Letters.{IsWord}
use Rattle.digit_tuple.specs.Paddings.{zeros}
use Rattle.digit_tuple.proofs.WordLemmas.{IsWord-append, IsWord-prefix, IsWord-back}
use Rattle.base_k.specs.Positional.{value}
use Rattle.base_change.specs.Digits.{ExpansionsKeepValues, expanded, lowest_digits, value_lsd}

-- the value of one word after another
pub value-append : (k : ℕ) (w v : List ℕ) → value_lsd k (w ++ v) ≡ value_lsd k w + k ^ length w * value_lsd k v
value-append k [] v = let unit : k ^ 0 * value_lsd k v ≡ 1 * value_lsd k v = ap (λ n. n * value_lsd k v) (pow-zero k) in omega (arith, unit)
value-append k (a ∷ w) v =
    let rest : k * value_lsd k (w ++ v) ≡ k * (value_lsd k w + k ^ length w * value_lsd k v) = ap (λ n. k * n) (value-append k w v) in
    let power : k ^ suc (length w) * value_lsd k v ≡ k * k ^ length w * value_lsd k v = ap (λ n. n * value_lsd k v) (pow-succ' k (length w)) in
    omega (arith, rest, power)

-- it is below the power of the length
pub value-small : (k : ℕ) (w : List ℕ) → IsWord k w → value_lsd k w < k ^ length w
value-small k [] over = omega (arith, pow-zero k)
value-small k (a ∷ w) over =
    let grown : k * (value_lsd k w + 1) ≤ k * k ^ length w = mul-le-mul_left k (let small = value-small k w over.1 in omega (arith, small)) in
    omega (arith, pow-succ' k (length w), grown, over.0)

-- the last digits alone have at most the value
pub value-drop : (k n : ℕ) (w : List ℕ) → IsWord k w → value_lsd k (drop n w) ≤ value_lsd k w
value-drop k zero w over = omega arith
value-drop k (suc n) [] over = omega arith
value-drop k (suc n) (a ∷ w) over =
    let grown : value_lsd k w * 1 ≤ value_lsd k w * k = mul-le-mul_left (value_lsd k w) (omega (arith, over.0)) in
    omega (arith, value-drop k n w over.1, grown)

pub value-zeros : (k m : ℕ) → value_lsd k (zeros m) ≡ 0
value-zeros k zero = refl
value-zeros k (suc m) = let rest : k * value_lsd k (zeros m) ≡ k * 0 = ap (λ n. k * n) (value-zeros k m) in omega (arith, rest)

-- trailing zeros change nothing
pub value-padded : (k m : ℕ) (w : List ℕ) → value_lsd k (w ++ zeros m) ≡ value_lsd k w
value-padded k m w =
    let none : k ^ length w * value_lsd k (zeros m) ≡ k ^ length w * 0 = ap (λ n. k ^ length w * n) (value-zeros k m) in
    omega (arith, value-append k w (zeros m), none)

pub length-digits : (r b n : ℕ) → length (lowest_digits r b n) ≡ b
length-digits r zero n = refl
length-digits r (suc b) n = ap suc (length-digits r b (n / r))

pub digits-over : (r b n : ℕ) → 1 ≤ r → IsWord r (lowest_digits r b n)
digits-over r zero n some = tt
digits-over r (suc b) n some = (mod_below n r (omega (arith, some)), digits-over r b (n / r) some)

-- a number has the value of its digits
pub value-digits : (r b n : ℕ) → 1 ≤ r → n < r ^ b → value_lsd r (lowest_digits r b n) ≡ n
value-digits r zero n some small = omega (arith, small, pow-zero r)
value-digits r (suc b) n some small =
    let below : n / r < r ^ b = div_below n r (r ^ b) (omega (arith, some)) (omega (arith, small, pow-suc r b)) in
    let rest : r * value_lsd r (lowest_digits r b (n / r)) ≡ r * (n / r) = ap (λ m. r * m) (value-digits r b (n / r) some below) in
    omega (arith, some, rest)

digits-zero : (r m : ℕ) → 1 ≤ r → lowest_digits r m 0 ≡ zeros m
digits-zero r zero some = refl
digits-zero r (suc m) some =
    let none : 0 ≡ 0 * r + 0 = omega arith in
    let low : 0 % r ≡ 0 = ap (λ n. n % r) none ∙ mod-mul-add 0 r 0 (omega (arith, some)) in
    let high : 0 / r ≡ 0 = ap (λ n. n / r) none ∙ div-mul-add 0 r 0 (omega (arith, some)) in
    ap (λ n. n ∷ lowest_digits r m (0 / r)) low ∙ ap (λ n. 0 ∷ lowest_digits r m n) high ∙ ap (λ w. 0 ∷ w) (digits-zero r m some)

-- and digits are those of their value, with zeros after them
pub digits-value : (r m : ℕ) (w : List ℕ) → IsWord r w → 1 ≤ r → lowest_digits r (length w + m) (value_lsd r w) ≡ w ++ zeros m
digits-value r m [] over some = ap (λ n. lowest_digits r n 0) (let at : 0 + m ≡ m = omega arith in at) ∙ digits-zero r m some
digits-value r m (a ∷ w) over some =
    let x : ℕ = value_lsd r w in
    let turned : a + r * x ≡ x * r + a = omega arith in
    let low : (a + r * x) % r ≡ a = ap (λ n. n % r) turned ∙ mod-mul-add x r a over.0 in
    let high : (a + r * x) / r ≡ x = ap (λ n. n / r) turned ∙ div-mul-add x r a over.0 in
    ap (λ n. lowest_digits r n (a + r * x)) (let at : suc (length w) + m ≡ suc (length w + m) = omega arith in at)
    ∙ ap (λ n. n ∷ lowest_digits r (length w + m) ((a + r * x) / r)) low
    ∙ ap (λ n. a ∷ lowest_digits r (length w + m) n) high
    ∙ ap (λ u. a ∷ u) (digits-value r m w over.1 some)

pub expanded-over : (r b : ℕ) (w : List ℕ) → 1 ≤ r → IsWord r (expanded r b w)
expanded-over r b [] some = tt
expanded-over r b (a ∷ w) some = IsWord-append r (lowest_digits r b a) (expanded r b w) (digits-over r b a some) (expanded-over r b w some)

pub length-expanded : (r b : ℕ) (w : List ℕ) → length (expanded r b w) ≡ length w * b
length-expanded r b [] = omega arith
length-expanded r b (a ∷ w) = omega (arith, length-append (lowest_digits r b a) (expanded r b w), length-digits r b a, length-expanded r b w)

pub expanded-append : (r b : ℕ) (w v : List ℕ) → expanded r b (w ++ v) ≡ expanded r b w ++ expanded r b v
expanded-append r b [] v = refl
expanded-append r b (a ∷ w) v = ap (λ u. lowest_digits r b a ++ u) (expanded-append r b w v) ∙ sym (append_assoc (lowest_digits r b a) (expanded r b w) (expanded r b v))

-- expanding a word keeps its value
pub value-expanded : (r b : ℕ) (w : List ℕ) → 1 ≤ r → IsWord (r ^ b) w → value_lsd (r ^ b) w ≡ value_lsd r (expanded r b w)
value-expanded r b [] some over = refl
value-expanded r b (a ∷ w) some over =
    let digits : List ℕ = lowest_digits r b a in
    let rest : r ^ b * value_lsd (r ^ b) w ≡ r ^ b * value_lsd r (expanded r b w) = ap (λ n. r ^ b * n) (value-expanded r b w some over.1) in
    let long : r ^ length digits * value_lsd r (expanded r b w) ≡ r ^ b * value_lsd r (expanded r b w) = ap (λ n. r ^ n * value_lsd r (expanded r b w)) (length-digits r b a) in
    omega (arith, value-append r digits (expanded r b w), value-digits r b a some over.0, rest, long)

-- a digit at the end
value_push : (k : ℕ) (w : List ℕ) (a : ℕ) → value k (w ++ a ∷ []) ≡ k * value k w + a
value_push k [] a = let unit : a * k ^ 0 ≡ a * 1 = ap (λ n. a * n) (pow-zero k) in omega (arith, unit)
value_push k (b ∷ w) a =
    let power : b * k ^ length (w ++ a ∷ []) ≡ b * (k ^ length w * k) =
    ap (λ n. b * k ^ n) (let long : length (w ++ a ∷ []) ≡ suc (length w) = omega (arith, length-append w (a ∷ [])) in long) ∙ ap (λ n. b * n) (pow-suc k (length w)) in
    omega (arith, power, value_push k w a)

-- the value of a word whose most significant digit is read first
pub value-reverse : (k : ℕ) (w : List ℕ) → value k (reverse w) ≡ value_lsd k w
value-reverse k [] = refl
value-reverse k (a ∷ w) =
    let turned : value k (reverse (a ∷ w)) ≡ value k (reverse w ++ a ∷ []) = ap (value k) (reverse-append (a ∷ []) w) in
    let rest : k * value k (reverse w) ≡ k * value_lsd k w = ap (λ n. k * n) (value-reverse k w) in
    omega (arith, turned, value_push k (reverse w) a, rest)

pub expansions_keep_values : ExpansionsKeepValues
expansions_keep_values r b w some over = value-reverse (r ^ b) w ∙ value-expanded r b w (omega (arith, some)) over ∙ sym (value-reverse r (expanded r b w))

-- parts of a word
pub take-over : (k n : ℕ) (w : List ℕ) → IsWord k w → IsWord k (take n w)
take-over k n w over = IsWord-prefix k (take n w) (drop n w) (subst (IsWord k) (sym (take-append-drop n w)) over)

pub drop-over : (k n : ℕ) (w : List ℕ) → IsWord k w → IsWord k (drop n w)
drop-over k n w over = IsWord-back k (take n w) (drop n w) (subst (IsWord k) (sym (take-append-drop n w)) over)
