-- Keys that are one after another in a list of numbers.
use Rattle.std.proofs.Common.{◌≡◌, ℕ, zero, suc, ◌≤◌, ◌<◌, List, [], ◌∷◌, ◌++◌, take, drop, length, get_or, refl, sym, ap, ◌∙◌, length-append, length-drop, arith}
use Rattle.std.specs.List.{slice_range}
use Rattle.std.proofs.lemmas.List.{take-append-drop}
use Rattle.digit_tuple.specs.KeyParts.{parts_from, AreEnds}
use Rattle.digit_tuple.proofs.KeySpanLemmas.{slice_range-append, slice_range-grown}

pub length-parts : (numbers : List ℕ) (start : ℕ) (ends : List ℕ) → length (parts_from numbers start ends) ≡ length ends
length-parts numbers start [] = refl
length-parts numbers start (e ∷ es) = omega (arith, length-parts numbers e es)

-- the part with a number
pub part_at : (numbers : List ℕ) (start : ℕ) (ends : List ℕ) (n : ℕ) → n < length ends → get_or (parts_from numbers start ends) n [] ≡ slice_range numbers (get_or (start ∷ ends) n 0) (get_or ends n 0)
part_at numbers start [] n within = absurd (omega arith)
part_at numbers start (e ∷ es) zero within = refl
part_at numbers start (e ∷ es) (suc n) within = part_at numbers e es n (omega arith)

AreEnds-start : (count start : ℕ) (ends : List ℕ) → AreEnds count start ends → start ≤ count
AreEnds-start count start [] are = are
AreEnds-start count start (e ∷ es) are = omega (arith, are.0, AreEnds-start count e es are.1)

-- the ends of one part
pub AreEnds-at : (count start : ℕ) (ends : List ℕ) (n : ℕ) → AreEnds count start ends → n < length ends → (get_or (start ∷ ends) n 0 ≤ get_or ends n 0) × (get_or ends n 0 ≤ count)
AreEnds-at count start [] n are within = absurd (omega arith)
AreEnds-at count start (e ∷ es) zero are within = (are.0, AreEnds-start count e es are.1)
AreEnds-at count start (e ∷ es) (suc n) are within = AreEnds-at count e es n are.1 (omega arith)

-- where the last part ends
pub AreEnds-last : (count start : ℕ) (ends : List ℕ) → AreEnds count start ends → (start ≤ get_or (start ∷ ends) (length ends) 0) × (get_or (start ∷ ends) (length ends) 0 ≤ count)
AreEnds-last count start [] are = (omega arith, are)
AreEnds-last count start (e ∷ es) are = let rest = AreEnds-last count e es are.1 in (omega (arith, are.0, rest.0), rest.1)

-- among other numbers, as long as the last part ends there
pub AreEnds-among : (count more start : ℕ) (ends : List ℕ) → AreEnds count start ends → get_or (start ∷ ends) (length ends) 0 ≤ more → AreEnds more start ends
AreEnds-among count more start [] are within = within
AreEnds-among count more start (e ∷ es) are within = (are.0, AreEnds-among count more e es are.1 within)

-- one more end
pub AreEnds-push : (count start end : ℕ) (ends : List ℕ) → AreEnds count start ends → get_or (start ∷ ends) (length ends) 0 ≤ end → AreEnds end start (ends ++ end ∷ [])
AreEnds-push count start end [] are after = (after, omega arith)
AreEnds-push count start end (e ∷ es) are after = (are.0, AreEnds-push count e end es are.1 after)

-- the first ends
pub AreEnds-take : (count start k : ℕ) (ends : List ℕ) → AreEnds count start ends → AreEnds count start (take k ends)
AreEnds-take count start zero ends are = AreEnds-start count start ends are
AreEnds-take count start (suc k) [] are = are
AreEnds-take count start (suc k) (e ∷ es) are = (are.0, AreEnds-take count e k es are.1)

pub parts_from-take : (numbers : List ℕ) (start k : ℕ) (ends : List ℕ) → parts_from numbers start (take k ends) ≡ take k (parts_from numbers start ends)
parts_from-take numbers start zero ends = refl
parts_from-take numbers start (suc k) [] = refl
parts_from-take numbers start (suc k) (e ∷ es) = ap (λ ps. slice_range numbers start e ∷ ps) (parts_from-take numbers e k es)

-- a part stays where the numbers up to its end stay
slice_range-take : (xs ys : List ℕ) (i j used : ℕ) → i ≤ j → j ≤ used → used ≤ length xs → slice_range (take used xs ++ ys) i j ≡ slice_range xs i j
slice_range-take xs ys i j used before within fits =
    let cut : length (take used xs) ≡ used = omega (arith, ap length (take-append-drop used xs), length-append (take used xs) (drop used xs), length-drop used xs) in
    slice_range-append (take used xs) ys i j before (omega arith)
    ∙ sym (slice_range-append (take used xs) (drop used xs) i j before (omega arith))
    ∙ ap (λ zs. slice_range zs i j) (take-append-drop used xs)

-- the parts stay where the numbers up to the last end stay
pub parts_from-kept : (numbers more : List ℕ) (start used : ℕ) (ends : List ℕ) → AreEnds (length numbers) start ends → get_or (start ∷ ends) (length ends) 0 ≤ used → used ≤ length numbers
    → parts_from (take used numbers ++ more) start ends ≡ parts_from numbers start ends
parts_from-kept numbers more start used [] are last fits = refl
parts_from-kept numbers more start used (e ∷ es) are last fits =
    let here = slice_range-take numbers more start e used are.0 (omega (arith, last, AreEnds-last (length numbers) e es are.1)) fits in
    ap (λ p. p ∷ parts_from (take used numbers ++ more) e es) here
    ∙ ap (λ ps. slice_range numbers start e ∷ ps) (parts_from-kept numbers more e used es are.1 last fits)

-- the ends where the numbers up to the last one stay
pub AreEnds-kept : (numbers more : List ℕ) (start used : ℕ) (ends : List ℕ) → AreEnds (length numbers) start ends → used ≡ get_or (start ∷ ends) (length ends) 0 → AreEnds (length (take used numbers ++ more)) start ends
AreEnds-kept numbers more start used ends are last =
    let fits = AreEnds-last (length numbers) start ends are in
    AreEnds-among (length numbers) (length (take used numbers ++ more)) start ends are
    (omega (arith, last, fits.1, length-append (take used numbers) more, ap length (take-append-drop used numbers), length-append (take used numbers) (drop used numbers), length-drop used numbers))

-- one more end
parts_from-end : (numbers : List ℕ) (start end : ℕ) (ends : List ℕ) → parts_from numbers start (ends ++ end ∷ []) ≡ parts_from numbers start ends ++ slice_range numbers (get_or (start ∷ ends) (length ends) 0) end ∷ []
parts_from-end numbers start end [] = refl
parts_from-end numbers start end (e ∷ es) = ap (λ ps. slice_range numbers start e ∷ ps) (parts_from-end numbers e end es)

-- one more part, which goes after the last one
pub parts_from-push : (numbers key : List ℕ) (start used end : ℕ) (ends : List ℕ) → AreEnds (length numbers) start ends → used ≡ get_or (start ∷ ends) (length ends) 0 → end ≡ length (take used numbers ++ key)
    → parts_from (take used numbers ++ key) start (ends ++ end ∷ []) ≡ parts_from numbers start ends ++ key ∷ []
parts_from-push numbers key start used end ends are last is =
    let fits : used ≤ length numbers = omega (arith, last, AreEnds-last (length numbers) start ends are) in
    let cut : length (take used numbers) ≡ used = omega (arith, ap length (take-append-drop used numbers), length-append (take used numbers) (drop used numbers), length-drop used numbers) in
    let grown : slice_range (take used numbers ++ key) (length (take used numbers)) end ≡ key = slice_range-grown (take used numbers) key end (is ∙ length-append (take used numbers) key) in
    parts_from-end (take used numbers ++ key) start end ends
    ∙ ap (λ ps. ps ++ slice_range (take used numbers ++ key) (get_or (start ∷ ends) (length ends) 0) end ∷ []) (parts_from-kept numbers key start used ends are (omega (arith, last)) fits)
    ∙ ap (λ n. parts_from numbers start ends ++ slice_range (take used numbers ++ key) n end ∷ []) (sym last ∙ sym cut)
    ∙ ap (λ (k : List ℕ). parts_from numbers start ends ++ k ∷ []) grown
