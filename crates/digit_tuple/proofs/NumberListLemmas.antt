-- Lists that are one after another in one list of numbers.
use Rattle.std.proofs.Common.{◌≡◌, ℕ, zero, suc, ◌+◌, ◌-◌, ◌*◌, ◌<◌, ◌≤◌, List, [], ◌∷◌, ◌++◌, take, drop, replicate, length, get_or, refl, sym, ap, ◌∙◌, length-append, length-drop, length-take, arith}
use Rattle.std.specs.List.{slice_range, sum_by}
use Rattle.std.proofs.Math.Seq.{take-append-add}
use Rattle.std.proofs.lemmas.List.{append_assoc, drop-append-le, get_or_append_left, get_or-append_right, get_or-replicate, length-replicate, take-append-le, take-replicate, take_all}
use Rattle.std.proofs.lemmas.List.Folds.{sum_by-replicate}
use Rattle.std.proofs.lemmas.List.Sums.{sum_by-append, sum_by-cons}
use Rattle.digit_tuple.specs.NumberLists.{first_place, lists_at, lists_of, AreAscendingPlaces, AreStarts, AreLists, extended}
use Rattle.digit_tuple.proofs.KeySpanLemmas.{slice_range-append}

pub length-lists_at : (starts numbers : List ℕ) → length (lists_at starts numbers) ≡ length starts
length-lists_at [] numbers = refl
length-lists_at (s ∷ ss) numbers = ap suc (length-lists_at ss numbers)

first_place-push : (starts : List ℕ) (end : ℕ) → first_place (starts ++ end ∷ []) end ≡ first_place starts end
first_place-push [] end = refl
first_place-push (s ∷ ss) end = refl

-- the first place is at most the end
first_place-le : (starts : List ℕ) (end : ℕ) → AreAscendingPlaces starts end → first_place starts end ≤ end
first_place-le [] end are = omega arith
first_place-le (s ∷ ss) end are = let more = first_place-le ss end are.1 in omega (arith, more, are.0)

-- a list that begins at the end is empty
pub lists_at-push : (starts numbers : List ℕ) (end : ℕ) → end ≡ length numbers → lists_at (starts ++ end ∷ []) numbers ≡ lists_at starts numbers ++ [] ∷ []
lists_at-push [] numbers end is =
    let none : length numbers - end ≡ 0 = omega arith in
    ap (λ n. take n (drop end numbers) ∷ []) none
lists_at-push (s ∷ ss) numbers end is =
    let same : first_place (ss ++ end ∷ []) (length numbers) ≡ first_place ss (length numbers) = ap (first_place (ss ++ end ∷ [])) (sym is) ∙ first_place-push ss end ∙ ap (first_place ss) is in
    ap (λ n. slice_range numbers s n ∷ lists_at (ss ++ end ∷ []) numbers) same ∙ ap (λ ls. slice_range numbers s (first_place ss (length numbers)) ∷ ls) (lists_at-push ss numbers end is)

pub AreAscendingPlaces-push : (starts : List ℕ) (end : ℕ) → AreAscendingPlaces starts end → AreAscendingPlaces (starts ++ end ∷ []) end
AreAscendingPlaces-push [] end are = (omega arith, tt)
AreAscendingPlaces-push (s ∷ ss) end are = (omega (arith, are.0, first_place-push ss end), AreAscendingPlaces-push ss end are.1)

pub AreStarts-push : (starts : List ℕ) (end place : ℕ) → place ≡ end → AreStarts starts end → AreStarts (starts ++ place ∷ []) end
AreStarts-push starts end place is are = rw is (record { first = first_place-push starts end ∙ are.first; ascending = AreAscendingPlaces-push starts end are.ascending })

-- a number at the end is one more of the last list
slice_range-more : (numbers : List ℕ) (s n : ℕ) → s ≤ length numbers → slice_range (numbers ++ n ∷ []) s (length (numbers ++ n ∷ [])) ≡ slice_range numbers s (length numbers) ++ n ∷ []
slice_range-more numbers s n within =
    let few : length (drop s numbers ++ n ∷ []) ≤ length (numbers ++ n ∷ []) - s = omega (arith, length-append (drop s numbers) (n ∷ []), length-append numbers (n ∷ []), length-drop s numbers) in
    let all : length (drop s numbers) ≤ length numbers - s = omega (arith, length-drop s numbers) in
    ap (take (length (numbers ++ n ∷ []) - s)) (drop-append-le s numbers (n ∷ []) within)
    ∙ take_all (length (numbers ++ n ∷ []) - s) (drop s numbers ++ n ∷ []) few
    ∙ ap (λ ns. ns ++ n ∷ []) (sym (take_all (length numbers - s) (drop s numbers) all))

pub lists_at-add : (starts numbers : List ℕ) (n : ℕ) → AreAscendingPlaces starts (length numbers) → lists_at starts (numbers ++ n ∷ []) ≡ extended (lists_at starts numbers) (n ∷ [])
lists_at-add [] numbers n are = refl
lists_at-add (s ∷ []) numbers n are = ap (λ ns. ns ∷ []) (slice_range-more numbers s n are.0)
lists_at-add (s ∷ (t ∷ ts)) numbers n are =
    let within = first_place-le (t ∷ ts) (length numbers) are.1 in
    ap (λ ns. ns ∷ lists_at (t ∷ ts) (numbers ++ n ∷ [])) (slice_range-append numbers (n ∷ []) s t are.0 within)
    ∙ ap (λ ls. slice_range numbers s t ∷ ls) (lists_at-add (t ∷ ts) numbers n are.1)

first_place-more : (starts : List ℕ) (end more : ℕ) → 0 < length starts → first_place starts more ≡ first_place starts end
first_place-more [] end more some = absurd (omega arith)
first_place-more (s ∷ ss) end more some = refl

AreAscendingPlaces-more : (starts : List ℕ) (end more : ℕ) → end ≤ more → AreAscendingPlaces starts end → AreAscendingPlaces starts more
AreAscendingPlaces-more [] end more le are = tt
AreAscendingPlaces-more (s ∷ []) end more le are = (omega (arith, le, are.0), tt)
AreAscendingPlaces-more (s ∷ (t ∷ ts)) end more le are = (are.0, AreAscendingPlaces-more (t ∷ ts) end more le are.1)

pub AreStarts-more : (starts : List ℕ) (end more : ℕ) → 0 < length starts → end ≤ more → AreStarts starts end → AreStarts starts more
AreStarts-more starts end more some le are = record { first = first_place-more starts end more some ∙ are.first; ascending = AreAscendingPlaces-more starts end more le are.ascending }

-- the list at a place
pub lists_at-read : (starts numbers : List ℕ) (q d : ℕ) → q < length starts → get_or (lists_at starts numbers) q [] ≡ slice_range numbers (get_or starts q d) (first_place (drop (suc q) starts) (length numbers))
lists_at-read [] numbers q d within = absurd (omega arith)
lists_at-read (s ∷ ss) numbers zero d within = refl
lists_at-read (s ∷ ss) numbers (suc q) d within = lists_at-read ss numbers q d (omega arith)

length-slice_range : (numbers : List ℕ) (i j : ℕ) → i ≤ j → j ≤ length numbers → i + length (slice_range numbers i j) ≡ j
length-slice_range numbers i j le within = omega (arith, length-take (j - i) (drop i numbers), length-drop i numbers)

-- where a list begins: after all numbers of those before it
pub lists_at-start : (starts numbers : List ℕ) (q d : ℕ) → AreAscendingPlaces starts (length numbers) → q < length starts → first_place starts (length numbers) + sum_by length (take q (lists_at starts numbers)) ≡ get_or starts q d
lists_at-start [] numbers q d are within = absurd (omega arith)
lists_at-start (s ∷ ss) numbers zero d are within = omega arith
lists_at-start (s ∷ ss) numbers (suc q) d are within =
    let rest = lists_at-start ss numbers q d are.1 (omega arith) in
    let here = length-slice_range numbers s (first_place ss (length numbers)) are.0 (first_place-le ss (length numbers) are.1) in
    omega (arith, rest, here, sum_by-cons length (slice_range numbers s (first_place ss (length numbers))) (take q (lists_at ss numbers)))

-- the lists have all numbers from the first place on
pub lists_at-total : (starts numbers : List ℕ) → AreAscendingPlaces starts (length numbers) → first_place starts (length numbers) + sum_by length (lists_at starts numbers) ≡ length numbers
lists_at-total [] numbers are = omega arith
lists_at-total (s ∷ ss) numbers are =
    let rest = lists_at-total ss numbers are.1 in
    let here = length-slice_range numbers s (first_place ss (length numbers)) are.0 (first_place-le ss (length numbers) are.1) in
    omega (arith, rest, here, sum_by-cons length (slice_range numbers s (first_place ss (length numbers))) (lists_at ss numbers))

-- all places are at most the end
pub AreAscendingPlaces-end : (starts : List ℕ) (end q : ℕ) → AreAscendingPlaces starts end → first_place (drop q starts) end ≤ end
AreAscendingPlaces-end [] end zero are = omega arith
AreAscendingPlaces-end [] end (suc q) are = omega arith
AreAscendingPlaces-end (s ∷ ss) end zero are = first_place-le (s ∷ ss) end are
AreAscendingPlaces-end (s ∷ ss) end (suc q) are = AreAscendingPlaces-end ss end q are.1

pub AreAscendingPlaces-next : (starts : List ℕ) (end q d : ℕ) → AreAscendingPlaces starts end → q < length starts → get_or starts q d ≤ first_place (drop (suc q) starts) end
AreAscendingPlaces-next [] end q d are within = absurd (omega arith)
AreAscendingPlaces-next (s ∷ ss) end zero d are within = are.0
AreAscendingPlaces-next (s ∷ ss) end (suc q) d are within = AreAscendingPlaces-next ss end q d are.1 (omega arith)

-- how many lists there are
pub length-lists_of : (same width : ℕ) (starts numbers : List ℕ) → length (lists_of same width starts numbers) ≡ same + length starts
length-lists_of same width starts numbers =
    omega (arith, length-append (replicate same (take width numbers)) (lists_at starts (drop width numbers)), length-replicate same (take width numbers), length-lists_at starts (drop width numbers))

-- so many of the lists that are the same have so many numbers
sum-same : (same width : ℕ) (numbers : List ℕ) → width ≤ length numbers → sum_by length (replicate same (take width numbers)) ≡ same * width
sum-same same width numbers within =
    let first : length (take width numbers) ≡ width = omega (arith, length-take width numbers) in
    sum_by-replicate length same (take width numbers) ∙ ap (λ n. same * n) first

-- how many numbers the lists have
pub lists_of-total : (same width : ℕ) (starts numbers : List ℕ) → width ≤ length numbers → AreStarts starts (length (drop width numbers)) → sum_by length (lists_of same width starts numbers) ≡ same * width + (length numbers - width)
lists_of-total same width starts numbers within are =
    let others = lists_at-total starts (drop width numbers) are.ascending in
    omega (arith, sum_by-append length (replicate same (take width numbers)) (lists_at starts (drop width numbers)), sum-same same width numbers within, others, are.first, length-drop width numbers)

-- where a list begins that is the same as the first, and where another
pub lists_of-start_same : (same width : ℕ) (starts numbers : List ℕ) (q : ℕ) → width ≤ length numbers → q ≤ same → sum_by length (take q (lists_of same width starts numbers)) ≡ q * width
lists_of-start_same same width starts numbers q within few =
    let length-same : q ≤ length (replicate same (take width numbers)) = omega (arith, few, length-replicate same (take width numbers)) in
    ap (sum_by length) (take-append-le q (replicate same (take width numbers)) (lists_at starts (drop width numbers)) length-same ∙ take-replicate q same (take width numbers) few)
    ∙ sum-same q width numbers within

pub lists_of-start : (same width : ℕ) (starts numbers : List ℕ) (q : ℕ) → width ≤ length numbers → AreStarts starts (length (drop width numbers)) → q < length starts → sum_by length (take (same + q) (lists_of same width starts numbers)) ≡ same * width + get_or starts q 0
lists_of-start same width starts numbers q within are inside =
    let firsts = replicate same (take width numbers) in
    let others = lists_at starts (drop width numbers) in
    let whole : same + q ≡ length firsts + q = omega (arith, length-replicate same (take width numbers)) in
    let parts = ap (λ n. sum_by length (take n (firsts ++ others))) whole ∙ ap (sum_by length) (take-append-add firsts others q) ∙ sum_by-append length firsts (take q others) in
    let there = lists_at-start starts (drop width numbers) q 0 are.ascending inside in
    omega (arith, parts, sum-same same width numbers within, there, are.first)

-- the list at a place
pub lists_of-read_same : (same width : ℕ) (starts numbers : List ℕ) (q : ℕ) → q < same → get_or (lists_of same width starts numbers) q [] ≡ take width numbers
lists_of-read_same same width starts numbers q few =
    let inside : q < length (replicate same (take width numbers)) = omega (arith, few, length-replicate same (take width numbers)) in
    get_or_append_left (replicate same (take width numbers)) (lists_at starts (drop width numbers)) [] q inside ∙ get_or-replicate same q (take width numbers) [] few

pub lists_of-read : (same width : ℕ) (starts numbers : List ℕ) (q : ℕ) → same ≤ q → get_or (lists_of same width starts numbers) q [] ≡ get_or (lists_at starts (drop width numbers)) (q - same) []
lists_of-read same width starts numbers q past =
    get_or-append_right (replicate same (take width numbers)) (lists_at starts (drop width numbers)) same q [] (length-replicate same (take width numbers)) past

-- one more list with no numbers
pub lists_of-push : (same width : ℕ) (starts numbers : List ℕ) (end : ℕ) → end ≡ length (drop width numbers) → lists_of same width (starts ++ end ∷ []) numbers ≡ lists_of same width starts numbers ++ [] ∷ []
lists_of-push same width starts numbers end is =
    let firsts = replicate same (take width numbers) in
    ap (λ (ls : List (List ℕ)). firsts ++ ls) (lists_at-push starts (drop width numbers) end is) ∙ sym (append_assoc firsts (lists_at starts (drop width numbers)) ([] ∷ []))

-- a number at the end of the last list
extended-append : {A : Type 0} (xs ys : List (List A)) (more : List A) → 0 < length ys → extended (xs ++ ys) more ≡ xs ++ extended ys more
extended-append [] ys more some = refl
extended-append (x ∷ []) [] more some = absurd (omega arith)
extended-append (x ∷ []) (y ∷ ys) more some = refl
extended-append {A = A} (x ∷ (w ∷ xs)) ys more some = ap (λ (ls : List (List A)). x ∷ ls) (extended-append (w ∷ xs) ys more some)

pub lists_of-add : (same width : ℕ) (starts numbers : List ℕ) (n : ℕ) → width ≤ length numbers → AreStarts starts (length (drop width numbers)) → 0 < length starts → lists_of same width starts (numbers ++ n ∷ []) ≡ extended (lists_of same width starts numbers) (n ∷ [])
lists_of-add same width starts numbers n within are some =
    let others = lists_at starts (drop width numbers) in
    let inside : 0 < length others = omega (arith, some, length-lists_at starts (drop width numbers)) in
    ap (λ (ns : List ℕ). replicate same ns ++ lists_at starts (drop width (numbers ++ n ∷ []))) (take-append-le width numbers (n ∷ []) within)
    ∙ ap (λ (ns : List ℕ). replicate same (take width numbers) ++ lists_at starts ns) (drop-append-le width numbers (n ∷ []) within)
    ∙ ap (λ (ls : List (List ℕ)). replicate same (take width numbers) ++ ls) (lists_at-add starts (drop width numbers) n are.ascending)
    ∙ sym (extended-append (replicate same (take width numbers)) others (n ∷ []) inside)

-- where there are lists, the last one begins at a place
pub AreLists-some : (same width : ℕ) (starts numbers : List ℕ) → AreLists same width starts numbers → 0 < length (lists_of same width starts numbers) → 0 < length starts
AreLists-some zero width starts numbers are some = omega (arith, some, length-lists_of zero width starts numbers)
AreLists-some (suc same) width starts numbers are some = are.last (omega arith)

-- lists with one more number, kept so
pub AreLists-add : (same width : ℕ) (starts numbers : List ℕ) (n : ℕ) → AreLists same width starts numbers → 0 < length starts → sum_by length (lists_of same width starts numbers) + 1 < 18446744073709551616 → AreLists same width starts (numbers ++ n ∷ [])
AreLists-add same width starts numbers n are some small =
    let more : length (drop width numbers) ≤ length (drop width (numbers ++ n ∷ [])) = omega (arith, length-drop width numbers, length-drop width (numbers ++ n ∷ []), length-append numbers (n ∷ [])) in
    let within : width ≤ length (numbers ++ n ∷ []) = omega (arith, are.within, length-append numbers (n ∷ [])) in
    let places = AreStarts-more starts (length (drop width numbers)) (length (drop width (numbers ++ n ∷ []))) some more are.places in
    record {
      within = within;
      bare = are.bare;
      places = places;
      last = λ _. some;
      few = omega (arith, are.few, length-lists_of same width starts numbers, length-lists_of same width starts (numbers ++ n ∷ []));
      small = omega (arith, small, length-append numbers (n ∷ []), lists_of-total same width starts numbers are.within are.places, lists_of-total same width starts (numbers ++ n ∷ []) within places);
    }

-- lists with one more that begins at the end, kept so
pub AreLists-push : (same width : ℕ) (starts numbers : List ℕ) (end : ℕ) → end ≡ length (drop width numbers) → AreLists same width starts numbers → length (lists_of same width starts numbers) + 1 < 18446744073709551616 → AreLists same width (starts ++ end ∷ []) numbers
AreLists-push same width starts numbers end is are few =
    let some : 0 < length (starts ++ end ∷ []) = omega (arith, length-append starts (end ∷ [])) in
    let pushed = lists_of-push same width starts numbers end is in
    record {
      within = are.within;
      bare = are.bare;
      places = AreStarts-push starts (length (drop width numbers)) end is are.places;
      last = λ _. some;
      few = omega (arith, few, ap length pushed, length-append (lists_of same width starts numbers) ([] ∷ []));
      small = omega (arith, are.small, ap (sum_by length) pushed, sum_by-append length (lists_of same width starts numbers) ([] ∷ []));
    }
