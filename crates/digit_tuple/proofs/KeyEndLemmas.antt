-- Where keys end, of which the first have one width.
use Rattle.std.proofs.Common.{◌≡◌, ℕ, zero, suc, ◌+◌, ◌-◌, ◌*◌, ◌<◌, ◌≤◌, List, [], ◌∷◌, ◌++◌, take, length, get_or, length-append, refl, sym, ap, ◌∙◌, arith}
use Rattle.std.proofs.Math.Nat.{suc-mul}
use Rattle.std.proofs.lemmas.List.{append-nil, get_or-append_right, get_or_append_left}
use Rattle.std.proofs.lemmas.List.FromFn.{get_or-map-range_with_len, length-map-range_with_len, map-range_with_len_more, take-map-range_with_len}
use Rattle.digit_tuple.specs.KeyParts.{even_ends, start_of}

pub length-even : (width even : ℕ) → length (even_ends width even) ≡ even
length-even width even = length-map-range_with_len (λ n. (n + 1) * width) 0 even

-- the end of an even key
pub end_of-even : (width even : ℕ) (ends : List ℕ) (number : ℕ) → number < even → get_or (even_ends width even ++ ends) number 0 ≡ (number + 1) * width
end_of-even width even ends number within =
    get_or_append_left (even_ends width even) ends 0 number (omega (arith, within, length-even width even))
    ∙ get_or-map-range_with_len (λ n. (n + 1) * width) 0 even number number 0 within (omega arith)

-- the end of another one
pub end_of-other : (width even : ℕ) (ends : List ℕ) (number : ℕ) → even ≤ number → get_or (even_ends width even ++ ends) number 0 ≡ get_or ends (number - even) 0
end_of-other width even ends number past = get_or-append_right (even_ends width even) ends even number 0 (length-even width even) past

-- one more even key
pub even_ends-more : (width even : ℕ) → even_ends width (even + 1) ≡ even_ends width even ++ ((even + 1) * width) ∷ []
even_ends-more width even = map-range_with_len_more (λ n. (n + 1) * width) 0 even even (omega arith)

-- without the last one
pub even_ends-less : (width even : ℕ) → 0 < even → even_ends width (even - 1) ≡ take (even - 1) (even_ends width even)
even_ends-less width even some = sym (take-map-range_with_len (λ n. (n + 1) * width) 0 even (even - 1) (omega arith))

pub length-ends : (width even : ℕ) (ends : List ℕ) → length (even_ends width even ++ ends) ≡ even + length ends
length-ends width even ends = omega (arith, length-append (even_ends width even) ends, length-even width even)

-- where an even key starts, or the one after the last of them
pub start_of-even : (width even : ℕ) (ends : List ℕ) (number : ℕ) → number ≤ even → number * width ≡ start_of (even_ends width even ++ ends) number
start_of-even width even ends zero within = omega arith
start_of-even width even ends (suc n) within = ap (λ m. m * width) (sym (suc-is n)) ∙ sym (end_of-even width even ends n (omega (arith, within)))
  where
    suc-is : (m : ℕ) → m + 1 ≡ suc m
    suc-is m = omega arith

-- where another one starts
pub start_of-other : (width even : ℕ) (ends : List ℕ) (number : ℕ) → even < number → get_or ends (number - 1 - even) 0 ≡ start_of (even_ends width even ++ ends) number
start_of-other width even ends zero past = absurd (omega (arith, past))
start_of-other width even ends (suc n) past =
    let place : suc n - 1 - even ≡ n - even = omega arith in
    ap (λ m. get_or ends m 0) place ∙ sym (end_of-other width even ends n (omega (arith, past)))

-- the end of one more even key
pub even-next : (even width used end : ℕ) → used ≡ even * width → used ≤ end → end - used ≡ width → (even + 1) * width ≡ end
even-next even width used end is within next = ap (λ m. m * width) (suc-is even) ∙ suc-mul even width ∙ ap (λ u. u + width) (sym is) ∙ more
  where
    suc-is : (m : ℕ) → m + 1 ≡ suc m
    suc-is m = omega arith

    more : used + width ≡ end
    more = omega (arith, within, next)

-- the width may change where there is no even key
pub even_ends-none : (width other even : ℕ) → even ≡ 0 → even_ends width even ≡ even_ends other even
even_ends-none width other even none = rw none refl

pub even-none : (width other even : ℕ) → even ≡ 0 → even * width ≡ even * other
even-none width other even none = rw none (omega arith)

-- an even key comes last
pub ends-next : (width other even end : ℕ) (ends : List ℕ) → length ends ≡ 0 → even_ends other even ≡ even_ends width even → (even + 1) * other ≡ end → even_ends other (even + 1) ++ ends ≡ (even_ends width even ++ ends) ++ end ∷ []
ends-next width other even end [] none same next = append-nil (even_ends other (even + 1)) ∙ even_ends-more other even ∙ ap (λ (es : List ℕ). es ++ ((even + 1) * other) ∷ []) same ∙ ap (λ n. even_ends width even ++ n ∷ []) next ∙ ap (λ (es : List ℕ). es ++ end ∷ []) (sym (append-nil (even_ends width even)))
ends-next width other even end (e ∷ es) none same next = absurd (omega (arith, none))

-- the last even key goes
pub ends-popped : (width even : ℕ) (ends : List ℕ) → length ends ≡ 0 → 0 < even → even_ends width (even - 1) ++ ends ≡ take (length (even_ends width even ++ ends) - 1) (even_ends width even ++ ends)
ends-popped width even [] none some = append-nil (even_ends width (even - 1)) ∙ even_ends-less width even some ∙ ap (λ n. take n (even_ends width even)) (omega (arith, length-ends width even [])) ∙ ap (take (length (even_ends width even ++ []) - 1)) (sym (append-nil (even_ends width even)))
ends-popped width even (e ∷ es) none some = absurd (omega (arith, none))
