-- Runs of digits of letters.
use Rattle.std.proofs.Common.{◌≡◌, ℕ, ◌+◌, ◌*◌, ◌/◌, ◌%◌, ◌<◌, List, [], ◌∷◌, length, get_or, take, drop, refl, sym, ap, ◌∙◌, arith}
use Rattle.std.proofs.lemmas.List.{drop_more}
use Rattle.std.proofs.lemmas.Nat.{div-mul-add}
use Rattle.digit_tuple.specs.Letters.{product, code_of}
use Rattle.digit_tuple.specs.Parts.{digits_of, picked, letter_part}
use Rattle.digit_tuple.proofs.LetterLemmas.{positive_left, positive_right, product-take-drop, product-drop_more}
use Rattle.track_parts.proofs.DivisionLemmas.{div-mul, mod-mul, digit-at}

-- two runs of which the digits follow one another are one
pub run_part-joined : (a d s t f e g : ℕ) → 0 < d → 0 < s → 0 < t → d * s ≡ e → f * s ≡ g → a / d % (t * s) * f ≡ a / e % t * g + a / d % s * f
run_part-joined a d s t f e g some more last is count =
    let x : ℕ = a / d in
    let high : a / e ≡ x / s = ap (λ n. a / n) (sym is) ∙ div-mul a d s some more in
    ap (λ n. n * f) (mod-mul x s t more last)
    ∙ omega (arith, ap (λ n. n % t * g) high, ap (λ n. x / s % t * n) count)

-- the part of a letter on the tracks from one of the places on
abbrev pub part_from : List ℕ → List ℕ → ℕ → ℕ → ℕ
part_from sizes places i letter = letter_part sizes (drop i places) letter

-- one place more
pub part_from-more : (sizes places : List ℕ) (i letter : ℕ) → i < length places → letter < product sizes → get_or places i 0 < length sizes
    → part_from sizes places i letter ≡ letter / product (drop (get_or places i 0 + 1) sizes) % get_or sizes (get_or places i 0) 0 * product (picked (drop (i + 1) places) sizes) + part_from sizes places (i + 1) letter
part_from-more sizes places i letter inside below within =
    ap (λ ps. letter_part sizes ps letter) (drop_more places i 0 inside)
    ∙ ap (λ n. n * product (picked (drop (i + 1) places) sizes) + part_from sizes places (i + 1) letter) (digit-at sizes letter (get_or places i 0) below within)

-- where there are letters, there are digits
pub positive_size : (sizes : List ℕ) (i : ℕ) → i < length sizes → 0 < product sizes → 0 < get_or sizes i 0
positive_size sizes i inside some =
    let tail : 0 < product (drop i sizes) = positive_right (product (take i sizes)) (product (drop i sizes)) (omega (arith, product-take-drop i sizes, some)) in
    positive_left (get_or sizes i 0) (product (drop (i + 1) sizes)) (omega (arith, product-drop_more sizes i (get_or sizes i 0) inside refl, tail))

pub positive_weight : (sizes : List ℕ) (i : ℕ) → 0 < product sizes → 0 < product (drop i sizes)
positive_weight sizes i some = positive_right (product (take i sizes)) (product (drop i sizes)) (omega (arith, product-take-drop i sizes, some))

-- the letters of the tracks after the next
pub weight-more : (sizes : List ℕ) (i : ℕ) → i < length sizes → 0 < product sizes → product (drop i sizes) / get_or sizes i 0 ≡ product (drop (i + 1) sizes)
weight-more sizes i inside some =
    let more : product (drop i sizes) ≡ product (drop (i + 1) sizes) * get_or sizes i 0 + 0 = omega (arith, product-drop_more sizes i (get_or sizes i 0) inside refl) in
    ap (λ n. n / get_or sizes i 0) more ∙ div-mul-add (product (drop (i + 1) sizes)) (get_or sizes i 0) 0 (positive_size sizes i inside some)

-- those of the tracks at the places after the next
pub factor-more : (sizes places : List ℕ) (i : ℕ) → i < length places → get_or places i 0 < length sizes → 0 < product sizes
    → product (picked (drop i places) sizes) / get_or sizes (get_or places i 0) 0 ≡ product (picked (drop (i + 1) places) sizes)
factor-more sizes places i inside within some =
    let rest = product (picked (drop (i + 1) places) sizes) in
    let size = get_or sizes (get_or places i 0) 0 in
    let more : product (picked (drop i places) sizes) ≡ rest * size + 0 = ap (λ ps. product (picked ps sizes)) (drop_more places i 0 inside) ∙ omega arith in
    ap (λ n. n / size) more ∙ div-mul-add rest size 0 (positive_size sizes (get_or places i 0) within some)
