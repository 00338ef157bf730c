-- Divisions one after another, and the digits of letters by them.
use Rattle.std.proofs.Common.{◌≡◌, ℕ, zero, suc, ◌+◌, ◌*◌, ◌/◌, ◌%◌, ◌<◌, List, [], ◌∷◌, length, get_or, take, drop, refl, sym, ap, ◌∙◌, arith}
use Rattle.std.proofs.lemmas.Nat.{div-mul-add, mod-mul-add, mul-add-lt, div_below, mod_below, div-add-mod'}
use Rattle.digit_tuple.specs.Letters.{product}
use Rattle.digit_tuple.specs.Parts.{digits_of}
use Rattle.digit_tuple.proofs.LetterLemmas.{positive_left, positive_right, product-take-drop, product-drop_more}

-- a division by a product is one by each factor
pub div-mul : (a d s : ℕ) → 0 < d → 0 < s → a / (d * s) ≡ a / d / s
div-mul a d s some more =
    let below : a / d % s * d + a % d < d * s = mul-add-lt (a / d % s) d (a % d) s (mod_below (a / d) s more) (mod_below a d some) in
    let whole : a / d / s * (d * s) + (a / d % s * d + a % d) ≡ a = omega (arith, div-add-mod' a d, ap (λ n. n * d) (div-add-mod' (a / d) s)) in
    ap (λ n. n / (d * s)) (sym whole) ∙ div-mul-add (a / d / s) (d * s) (a / d % s * d + a % d) below

-- what is left of a division by a product
pub mod-mul : (x s t : ℕ) → 0 < s → 0 < t → x % (t * s) ≡ x / s % t * s + x % s
mod-mul x s t some more =
    let below : x / s % t * s + x % s < s * t = mul-add-lt (x / s % t) s (x % s) t (mod_below (x / s) t more) (mod_below x s some) in
    let whole : x / s / t * (t * s) + (x / s % t * s + x % s) ≡ x = omega (arith, div-add-mod' x s, ap (λ n. n * s) (div-add-mod' (x / s) t)) in
    ap (λ n. n % (t * s)) (sym whole) ∙ mod-mul-add (x / s / t) (t * s) (x / s % t * s + x % s) (omega (arith, below))

-- a digit of what a division by a multiple of its place leaves
pub digit-mod : (a c t w p : ℕ) → 0 < w → 0 < t → p ≡ c * (t * w) → a % p / w % t ≡ a / w % t
digit-mod a c t w p some more is =
    let b : ℕ = a % p in
    let q : ℕ = a / p in
    let high : (q * (c * t) + b / w) * w + b % w ≡ a = omega (arith, div-add-mod' a p, div-add-mod' b w, ap (λ n. q * n) is) in
    let first : a / w ≡ q * (c * t) + b / w = ap (λ n. n / w) (sym high) ∙ div-mul-add (q * (c * t) + b / w) w (b % w) (mod_below b w some) in
    let low : (q * c + b / w / t) * t + b / w % t ≡ q * (c * t) + b / w = omega (arith, div-add-mod' (b / w) t) in
    sym (ap (λ n. n % t) (first ∙ sym low) ∙ mod-mul-add (q * c + b / w / t) t (b / w % t) (mod_below (b / w) t more))

-- the digit of a letter on a track
pub digit-at : (sizes : List ℕ) (letter i : ℕ) → letter < product sizes → i < length sizes → get_or (digits_of sizes letter) i 0 ≡ letter / product (drop (i + 1) sizes) % get_or sizes i 0
digit-at [] letter i below inside = absurd (omega (arith, inside))
digit-at (s ∷ ss) letter zero below inside =
    let positive : 0 < product ss = positive_right s (product ss) (omega (arith, below)) in
    let small : letter / product ss < s = div_below letter (product ss) s positive below in
    sym (ap (λ n. n % s) (omega arith) ∙ mod-mul-add 0 s (letter / product ss) small)
digit-at (s ∷ ss) letter (suc i) below inside =
    let positive : 0 < product ss = positive_right s (product ss) (omega (arith, below)) in
    let within : i < length ss = omega (arith, inside) in
    let t : ℕ = get_or ss i 0 in
    let w : ℕ = product (drop (i + 1) ss) in
    let more = product-drop_more ss i t within refl in
    let whole : product ss ≡ product (take i ss) * (t * w) = sym (product-take-drop i ss) ∙ ap (λ n. product (take i ss) * n) more in
    let tail : 0 < t * w = positive_right (product (take i ss)) (t * w) (omega (arith, whole, positive)) in
    let count : suc (i + 1) ≡ suc i + 1 = omega arith in
    digit-at ss (letter % product ss) i (mod_below letter (product ss) positive) within
    ∙ digit-mod letter (product (take i ss)) t w (product ss) (positive_right t w tail) (positive_left t w tail) whole
    ∙ ap (λ n. letter / product (drop n (s ∷ ss)) % t) count
