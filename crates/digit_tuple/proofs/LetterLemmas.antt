-- Products of sizes, and the letters of digits.
use Rattle.std.proofs.Common.{◌≡◌, ℕ, ◌+◌, ◌*◌, ◌/◌, ◌%◌, ◌<◌, ◌≤◌, min, suc, zero, inl, inr, List, [], ◌∷◌, ◌++◌, length, get_or, set, take, drop, arith, ap, subst, sym, refl, ◌∙◌}
use Rattle.std.proofs.lemmas.Bool.{cases_lt}
use Rattle.std.proofs.lemmas.Nat.{mul-add-lt, div-mul-add, mod-mul-add, div_below, mod_below, div-add-mod', mul-le}
use Rattle.std.proofs.lemmas.List.{take-append-drop, take_more, drop_more, take_more_set}
use Rattle.std.proofs.lemmas.List.Elements.{AllZip-get_or, length_all_zip, AllZip-push}
use Rattle.digit_tuple.specs.Letters.{product, code_of, AreDigits, IsWord, LettersDetermineDigits, DigitsHaveLetters, LettersHaveDigits, IsAlphabet, IsTooLarge}

pub product-append : (ms ns : List ℕ) → product (ms ++ ns) ≡ product ms * product ns
product-append [] ns = omega arith
product-append (m ∷ ms) ns = omega (arith, ap (λ n. m * n) (product-append ms ns))

-- the product of the first sizes and of the rest
pub product-take-drop : (i : ℕ) (ns : List ℕ) → product (take i ns) * product (drop i ns) ≡ product ns
product-take-drop i ns = sym (product-append (take i ns) (drop i ns)) ∙ ap product (take-append-drop i ns)

-- the sizes up to the next
pub product-take_more : (ns : List ℕ) (i s : ℕ) → i < length ns → s ≡ get_or ns i 0 → product (take (i + 1) ns) ≡ product (take i ns) * s
product-take_more ns i s within e =
    let one : product (take (i + 1) ns) ≡ product (take i ns) * product (get_or ns i 0 ∷ []) =
    ap product (take_more ns i 0 within) ∙ product-append (take i ns) (get_or ns i 0 ∷ []) in
    let at : product (take i ns) * get_or ns i 0 ≡ product (take i ns) * s = ap (λ n. product (take i ns) * n) (sym e) in
    omega (arith, one, at)

-- the sizes from one on
pub product-drop_more : (ns : List ℕ) (i s : ℕ) → i < length ns → s ≡ get_or ns i 0 → product (drop i ns) ≡ s * product (drop (i + 1) ns)
product-drop_more ns i s within e =
    ap product (drop_more ns i 0 within) ∙ ap (λ n. n * product (drop (i + 1) ns)) (sym e)

-- no factor of a positive number is 0
pub positive_left : (m n : ℕ) → 0 < m * n → 0 < m
positive_left zero n h = omega (arith, h)
positive_left (suc m) n h = omega arith

pub positive_right : (m n : ℕ) → 0 < m * n → 0 < n
positive_right m n h = positive_left n m (let e : n * m ≡ m * n = omega arith in subst (λ k. 0 < k) (sym e) h)

-- a factor is at most its product with a positive number
pub le_product : (m n : ℕ) → 0 < n → m ≤ m * n
le_product m zero h = absurd (omega arith)
le_product m (suc n) h = omega arith

-- digits are below sizes, so no size is 0
pub positive_from_digits : (ss ds : List ℕ) → AreDigits ss ds → 0 < product ss
positive_from_digits [] ds fit = omega arith
positive_from_digits (s ∷ ss) [] fit = absurd fit
positive_from_digits (s ∷ ss) (d ∷ ds) fit =
    let least : 0 < product ss = positive_from_digits ss ds fit.1 in
    let below : d < s = fit.0 in
    let bound = mul-le 1 1 s (product ss) (omega arith) (omega arith) in
    omega (arith, bound)

pub AreDigits-drop : (i : ℕ) (ss ds : List ℕ) → AreDigits ss ds → AreDigits (drop i ss) (drop i ds)
AreDigits-drop zero ss ds fit = fit
AreDigits-drop (suc i) [] [] fit = fit
AreDigits-drop (suc i) [] (d ∷ ds) fit = absurd fit
AreDigits-drop (suc i) (s ∷ ss) [] fit = absurd fit
AreDigits-drop (suc i) (s ∷ ss) (d ∷ ds) fit = AreDigits-drop i ss ds fit.1

-- digits have a letter of their alphabet
pub code_of-below : DigitsHaveLetters
code_of-below [] ds fit = omega arith
code_of-below (s ∷ ss) [] fit = absurd fit
code_of-below (s ∷ ss) (d ∷ ds) fit =
    let rest : code_of ss ds < product ss = code_of-below ss ds fit.1 in
    let below = mul-add-lt d (product ss) (code_of ss ds) s fit.0 rest in
    omega (arith, below)

-- the letter of more digits
pub code_of-append : (ss ts ds es : List ℕ) → AreDigits ss ds → code_of (ss ++ ts) (ds ++ es) ≡ code_of ss ds * product ts + code_of ts es
code_of-append [] ts [] es fit = omega arith
code_of-append [] ts (d ∷ ds) es fit = absurd fit
code_of-append (s ∷ ss) ts [] es fit = absurd fit
code_of-append (s ∷ ss) ts (d ∷ ds) es fit =
    omega (arith, ap (λ n. d * n) (product-append ss ts), code_of-append ss ts ds es fit.1)

-- digits are determined by their letter
pub code_of-injective : LettersDetermineDigits
code_of-injective [] [] [] fd fe e = refl
code_of-injective [] [] (x ∷ es) fd fe e = absurd fe
code_of-injective [] (d ∷ ds) es fd fe e = absurd fd
code_of-injective (s ∷ ss) [] es fd fe e = absurd fd
code_of-injective (s ∷ ss) (d ∷ ds) [] fd fe e = absurd fe
code_of-injective (s ∷ ss) (d ∷ ds) (x ∷ es) fd fe e =
    let p : ℕ = product ss in
    let low : code_of ss ds < p = code_of-below ss ds fd.1 in
    let high : code_of ss es < p = code_of-below ss es fe.1 in
    let heads : d ≡ x = sym (div-mul-add d p (code_of ss ds) low) ∙ ap (λ n. n / p) e ∙ div-mul-add x p (code_of ss es) high in
    let tails : code_of ss ds ≡ code_of ss es = sym (mod-mul-add d p (code_of ss ds) low) ∙ ap (λ n. n % p) e ∙ mod-mul-add x p (code_of ss es) high in
    let rest : ds ≡ es = code_of-injective ss ds es fd.1 fe.1 tails in
    ap (λ n. n ∷ ds) heads ∙ ap (λ ns. x ∷ ns) rest

-- each letter has digits
pub digits_from_letter : LettersHaveDigits
digits_from_letter [] letter below = ([], tt, omega (arith, below))
digits_from_letter (s ∷ ss) letter below =
    let positive : 0 < product ss = positive_right s (product ss) (omega (arith, below)) in
    let rest = digits_from_letter ss (letter % product ss) (mod_below letter (product ss) positive) in
    (letter / product ss ∷ rest.0, (div_below letter (product ss) s positive below, rest.1), ap (λ n. letter / product ss * product ss + n) rest.2 ∙ div-add-mod' letter (product ss))

-- one more digit of a letter that is put together
pub record IsPutTogether (ss ds : List ℕ) (i s letter : ℕ) : Type 0 where
  pub small : letter * s + get_or ds i 0 < 65536
  pub room : i < length ds
  pub below : letter * s + get_or ds i 0 < product (take (i + 1) ss)
  pub code : (letter * s + get_or ds i 0) * product (drop (i + 1) ss) + code_of (drop (i + 1) ss) (drop (i + 1) ds) ≡ code_of ss ds

pub put_together : (ss ds : List ℕ) (i s letter : ℕ) → product ss ≤ 65536 → AreDigits ss ds → i < length ss → s ≡ get_or ss i 0
    → letter < product (take i ss) → letter * product (drop i ss) + code_of (drop i ss) (drop i ds) ≡ code_of ss ds
    → IsPutTogether ss ds i s letter
put_together ss ds i s letter bound fit within e below code =
    let same : length ss ≡ length ds = length_all_zip (λ size digit. digit < size) ss ds fit in
    let room : i < length ds = omega arith in
    let digit : get_or ds i 0 < s = subst (λ n. get_or ds i 0 < n) (sym e) (AllZip-get_or (λ size digit. digit < size) ss ds i 0 0 fit within) in
    let more = product-take_more ss i s within e in
    let next : letter * s + get_or ds i 0 < product (take (i + 1) ss) =
    let at = mul-add-lt letter s (get_or ds i 0) (product (take i ss)) below digit in
    omega (arith, at, more) in
    let rest : 0 < product (drop (i + 1) ss) = positive_from_digits (drop (i + 1) ss) (drop (i + 1) ds) (AreDigits-drop (i + 1) ss ds fit) in
    let whole = product-take-drop (i + 1) ss in
    let least = le_product (product (take (i + 1) ss)) (product (drop (i + 1) ss)) rest in
    let small : letter * s + get_or ds i 0 < 65536 = omega (arith, next, whole, least, bound) in
    let dropped : letter * product (drop i ss) ≡ letter * (s * product (drop (i + 1) ss)) = ap (λ n. letter * n) (product-drop_more ss i s within e) in
    let coded : code_of (drop i ss) (drop i ds) ≡ get_or ds i 0 * product (drop (i + 1) ss) + code_of (drop (i + 1) ss) (drop (i + 1) ds) =
    ap (λ xs. code_of xs (drop i ds)) (drop_more ss i 0 within) ∙ ap (λ xs. code_of (get_or ss i 0 ∷ drop (i + 1) ss) xs) (drop_more ds i 0 room) in
    record { small = small; room = room; below = next; code = omega (arith, code, dropped, coded) }

-- one more digit of a letter that is taken apart
pub record IsTakenApart (ss out : List ℕ) (i s weight rest letter : ℕ) : Type 0 where
  pub positive : 0 < s
  pub next_positive : 0 < weight / s
  pub weight_is : weight / s ≡ product (drop (i + 1) ss)
  pub below : rest % (weight / s) < weight / s
  pub digits : AreDigits (take (i + 1) ss) (take (i + 1) (set out i (rest / (weight / s))))
  pub code : code_of (take (i + 1) ss) (take (i + 1) (set out i (rest / (weight / s)))) * (weight / s) + rest % (weight / s) ≡ letter

take_apart_at : (ss out : List ℕ) (i s w rest letter : ℕ) → i < length ss → length out ≡ length ss → s ≡ get_or ss i 0
    → w ≡ product (drop (i + 1) ss) → 0 < w → rest < s * w → AreDigits (take i ss) (take i out)
    → code_of (take i ss) (take i out) * (s * w) + rest ≡ letter
    → AreDigits (take (i + 1) ss) (take (i + 1) (set out i (rest / w))) × (code_of (take (i + 1) ss) (take (i + 1) (set out i (rest / w))) * w + rest % w ≡ letter)
take_apart_at ss out i s w rest letter within same e weight positive below digits code =
    let room : i < length out = omega arith in
    let digit : rest / w < get_or ss i 0 = subst (λ n. rest / w < n) e (div_below rest w s positive below) in
    let sizes = take_more ss i 0 within in
    let outs = take_more_set out i (rest / w) room in
    let pushed : AreDigits (take i ss ++ get_or ss i 0 ∷ []) (take i out ++ rest / w ∷ []) =
    AllZip-push (λ size digit. digit < size) (take i ss) (take i out) (get_or ss i 0) (rest / w) digits digit in
    let first : AreDigits (take (i + 1) ss) (take i out ++ rest / w ∷ []) = subst (λ xs. AreDigits xs (take i out ++ rest / w ∷ [])) (sym sizes) pushed in
    let second : AreDigits (take (i + 1) ss) (take (i + 1) (set out i (rest / w))) = subst (λ xs. AreDigits (take (i + 1) ss) xs) (sym outs) first in
    let appended = code_of-append (take i ss) (get_or ss i 0 ∷ []) (take i out) (rest / w ∷ []) digits in
    let one : code_of (take i ss) (take i out) * (get_or ss i 0 * 1) ≡ code_of (take i ss) (take i out) * s =
    ap (λ n. code_of (take i ss) (take i out) * n) (let at : get_or ss i 0 * 1 ≡ s = omega (arith, e) in at) in
    let made : code_of (take (i + 1) ss) (take (i + 1) (set out i (rest / w))) ≡ code_of (take i ss) (take i out) * s + rest / w =
    ap (λ xs. code_of xs (take (i + 1) (set out i (rest / w)))) sizes ∙ ap (λ xs. code_of (take i ss ++ get_or ss i 0 ∷ []) xs) outs
    ∙ (let total : code_of (take i ss ++ get_or ss i 0 ∷ []) (take i out ++ rest / w ∷ []) ≡ code_of (take i ss) (take i out) * s + rest / w = omega (arith, appended, one) in total) in
    let scaled : code_of (take (i + 1) ss) (take (i + 1) (set out i (rest / w))) * w ≡ (code_of (take i ss) (take i out) * s + rest / w) * w = ap (λ n. n * w) made in
    let split = div-add-mod' rest w in
    (second, omega (arith, scaled, split, code))

pub take_apart : (ss out : List ℕ) (i s weight rest letter : ℕ) → i < length ss → length out ≡ length ss → s ≡ get_or ss i 0
    → weight ≡ product (drop i ss) → rest < weight → AreDigits (take i ss) (take i out)
    → code_of (take i ss) (take i out) * weight + rest ≡ letter
    → IsTakenApart ss out i s weight rest letter
take_apart ss out i s weight rest letter within same e weight_was below digits code =
    let p : ℕ = product (drop (i + 1) ss) in
    let split : weight ≡ s * p = weight_was ∙ product-drop_more ss i s within e in
    let whole : 0 < s * p = omega arith in
    let positive : 0 < s = positive_left s p whole in
    let left : 0 < p = positive_right s p whole in
    let divided : weight / s ≡ p =
    let turned : weight ≡ p * s + 0 = omega (arith, split) in
    ap (λ n. n / s) turned ∙ div-mul-add p s 0 positive in
    let next : 0 < weight / s = subst (λ n. 0 < n) (sym divided) left in
    let again : weight ≡ s * (weight / s) = split ∙ ap (λ n. s * n) (sym divided) in
    let low : rest < s * (weight / s) = subst (λ n. rest < n) again below in
    let coded = subst (λ n. code_of (take i ss) (take i out) * n + rest ≡ letter) again code in
    let at = take_apart_at ss out i s (weight / s) rest letter within same e divided next low digits coded in
    record { positive = positive; next_positive = next; weight_is = divided; below = mod_below rest (weight / s) next; digits = at.0; code = at.1 }

-- a product that is cut off above a limit
pub min-mul : (p s : ℕ) → min (min p 65537 * s) 65537 ≡ min (p * s) 65537
min-mul p zero = omega arith
min-mul p (suc s) =
    elim (cases_lt p 65537) [ inl a ↦ (let e : min p 65537 ≡ p = omega arith in ap (λ n. min (n * suc s) 65537) e) | inr b ↦ (let e : min p 65537 ≡ 65537 = omega arith in ap (λ n. min (n * suc s) 65537) e ∙ (let l = le_product p (suc s) (omega arith) in omega (arith, l))) ]

-- the letters of a word that is put together
pub IsWord-append : (letters : ℕ) (u v : List ℕ) → IsWord letters u → IsWord letters v → IsWord letters (u ++ v)
IsWord-append letters [] v over more = more
IsWord-append letters (a ∷ u) v over more = (over.0, IsWord-append letters u v over.1 more)

-- an alphabet is not too large
pub not_too_large : (sizes : List ℕ) → IsAlphabet sizes → IsTooLarge sizes → ⊥
not_too_large sizes are (inl many) = omega (arith, are.tracks, many)
not_too_large sizes are (inr large) = omega (arith, are.letters, large)
