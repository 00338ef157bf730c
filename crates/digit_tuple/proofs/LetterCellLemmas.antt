-- How many cells transitions take: it depends on their letters alone, and grows run by run of letters that begin alike.
use Rattle.std.proofs.Common.{◌≡◌, ◌≢◌, ℕ, zero, suc, ◌+◌, ◌-◌, ◌*◌, ◌/◌, ◌%◌, ◌<◌, ◌≤◌, ◌⊎◌, inl, inr, List, [], ◌∷◌, ◌++◌, map, take, drop, length, get_or, Some, refl, sym, ap, ◌∙◌, subst, length-take, length-drop, arith}
use Rattle.std.specs.List.{sum_by, range_with_len, slice_get, All, AllPairs, AllByRecursion}
use Rattle.std.proofs.lemmas.Bool.{cases_eq, cases_lt}
use Rattle.std.proofs.lemmas.Nat.{mul-le, div-add-mod', mod_below, div_below}
use Rattle.std.proofs.lemmas.List.{get_or-take, get_or-drop, get_or_default, map-append, take-append-drop, take_all}
use Rattle.std.proofs.lemmas.List.Elements.{recursion_from_All, All-nil, All-cons, All-tail, All-take, All-drop}
use Rattle.std.proofs.lemmas.List.Sums.{sum_by-cons}
use Rattle.std.proofs.Math.Nat.{mul-add}
use Rattle.digit_tuple.specs.Letters.{product}
use Rattle.digit_tuple.specs.Reversed.{transition_to}
use Rattle.digit_tuple.specs.CellCounts.{transitions_after, one_if_any, cells_of}
use Rattle.digit_tuple.specs.Decisions.{after_digit}
use Rattle.digit_tuple.specs.declared.transitions.Transition.{Transition}
use Rattle.digit_tuple.proofs.JoinedReads.{AreBelow, drop-drop}
use Rattle.digit_tuple.proofs.LetterLemmas.{positive_right}
use Rattle.digit_tuple.proofs.SparseRowLemmas.{first_weight}
use Rattle.digit_tuple.proofs.CellLemmas.{sum-larger, sum-zero, after_digit-first, after_digit-other, cells_at, cells_of-none, cells-digit}

-- the transitions by these letters, the base taken from each
abbrev pub by_letters : ℕ → List ℕ → List Transition
by_letters base letters = map (λ letter. transition_to (letter - base) 0) letters

-- the transitions by the letters of others
abbrev bare : List Transition → List Transition
bare transitions = map (λ letter. transition_to letter 0) (map (λ transition. transition.letter) transitions)

-- sums whose terms are the same at each number of the range
sum-among : (f g : ℕ → ℕ) (from n : ℕ) → ((x : ℕ) → x < from + n → f x ≡ g x) → sum_by f (range_with_len from n) ≡ sum_by g (range_with_len from n)
sum-among f g from zero same = refl
sum-among f g from (suc n) same =
    let here = same from (omega arith) in
    let rest = sum-among f g (from + 1) n (λ x less. same x (omega (arith, less))) in
    omega (arith, here, rest, sum_by-cons f from (range_with_len (from + 1) n), sum_by-cons g from (range_with_len (from + 1) n))

after_digit-bare : (w x : ℕ) (es : List Transition) → transitions_after w x (bare es) ≡ bare (transitions_after w x es)
after_digit-bare w x [] = refl
after_digit-bare w x (e ∷ es) = by (cases_eq (e.letter / w) x) (after_digit-bare w x es)
  where
    by : (e.letter / w ≡ x) ⊎ ¬ (e.letter / w ≡ x) → transitions_after w x (bare es) ≡ bare (transitions_after w x es) → transitions_after w x (bare (e ∷ es)) ≡ bare (transitions_after w x (e ∷ es))
    by (inl same) rest = after_digit-first w x (transition_to e.letter 0) (bare es) same ∙ ap (λ fs. transition_to (e.letter % w) 0 ∷ fs) rest ∙ sym (ap bare (after_digit-first w x e es same))
    by (inr differ) rest = after_digit-other w x (transition_to e.letter 0) (bare es) differ ∙ rest ∙ sym (ap bare (after_digit-other w x e es differ))

any-bare : (es : List Transition) → one_if_any (bare es) ≡ one_if_any es
any-bare [] = refl
any-bare (e ∷ es) = refl

-- the cells of transitions depend on their letters alone
pub cells_of-letters : (sizes : List ℕ) (es : List Transition) → cells_of sizes es ≡ cells_of sizes (map (λ letter. transition_to letter 0) (map (λ transition. transition.letter) es))
cells_of-letters [] es = refl
cells_of-letters (size ∷ sizes) es =
    sum-among (λ x. cells_at sizes (transitions_after (product sizes) x es)) (λ x. cells_at sizes (transitions_after (product sizes) x (bare es))) 0 size
    (λ x less.
    let inner = cells_of-letters sizes (transitions_after (product sizes) x es) in
    let any = any-bare (transitions_after (product sizes) x es) in
    let same : cells_at sizes (transitions_after (product sizes) x (bare es)) ≡ cells_at sizes (bare (transitions_after (product sizes) x es)) = ap (cells_at sizes) (after_digit-bare (product sizes) x es) in
    omega (arith, inner, any, same))

bare-from_zero : (es : List Transition) → by_letters 0 (map (λ transition. transition.letter) es) ≡ bare es
bare-from_zero [] = refl
bare-from_zero (e ∷ es) = let same : e.letter - 0 ≡ e.letter = omega arith in ap (λ n. transition_to n 0 ∷ by_letters 0 (map (λ transition. transition.letter) es)) same ∙ ap (λ (fs : List Transition). transition_to e.letter 0 ∷ fs) (bare-from_zero es)

-- and so where nothing is taken from the letters
pub cells_of-from_zero : (sizes : List ℕ) (es : List Transition) → cells_of sizes (map (λ letter. transition_to (letter - 0) 0) (map (λ transition. transition.letter) es)) ≡ cells_of sizes es
cells_of-from_zero sizes es = ap (cells_of sizes) (bare-from_zero es) ∙ sym (cells_of-letters sizes es)

-- each transition is after at most one digit of a track
few-after_digit : (w size : ℕ) (es : List Transition) → sum_by (λ x. length (transitions_after w x es)) (range_with_len 0 size) ≤ length es
few-after_digit w size [] = omega (arith, sum-zero (range_with_len 0 size))
few-after_digit w size (e ∷ es) = by (cases_lt (e.letter / w) size) (few-after_digit w size es)
  where
    longer : length (transitions_after w (e.letter / w) (e ∷ es)) ≡ 1 + length (transitions_after w (e.letter / w) es)
    longer = let one = ap length (after_digit-first w (e.letter / w) e es refl) in omega (arith, one)

    same : (x : ℕ) → e.letter / w ≢ x → length (transitions_after w x (e ∷ es)) ≡ length (transitions_after w x es)
    same x differ = ap length (after_digit-other w x e es differ)

    by : (e.letter / w < size) ⊎ (size ≤ e.letter / w) → sum_by (λ x. length (transitions_after w x es)) (range_with_len 0 size) ≤ length es → sum_by (λ x. length (transitions_after w x (e ∷ es))) (range_with_len 0 size) ≤ length (e ∷ es)
    by (inl less) rest =
        let more = sum-larger (λ x. length (transitions_after w x (e ∷ es))) (λ x. length (transitions_after w x es)) 0 size (e.letter / w) 1 (omega arith) (omega (arith, less)) longer same in
        omega (arith, more, rest)
    by (inr past) rest =
        let all = sum-among (λ x. length (transitions_after w x (e ∷ es))) (λ x. length (transitions_after w x es)) 0 size (λ x within. same x (λ is. omega (arith, is, within, past))) in
        omega (arith, all, rest)

any-few : (es : List Transition) → one_if_any es ≤ length es
any-few [] = omega arith
any-few (e ∷ es) = omega arith

-- a sum of terms that are at most so many times others
sum-few : (f g : ℕ → ℕ) (m : ℕ) (xs : List ℕ) → ((x : ℕ) → f x ≤ m * g x) → sum_by f xs ≤ m * sum_by g xs
sum-few f g m [] few = omega arith
sum-few f g m (x ∷ xs) few =
    omega (arith, few x, sum-few f g m xs few, mul-add m (g x) (sum_by g xs), sum_by-cons f x xs, ap (λ n. m * n) (sum_by-cons g x xs))

-- on each track there are at most as many cells as transitions
pub few-cells_of : (sizes : List ℕ) (es : List Transition) → cells_of sizes es ≤ length sizes * length es
few-cells_of [] es = omega arith
few-cells_of (size ∷ sizes) es =
    let digits = sum-few (λ x. cells_at sizes (transitions_after (product sizes) x es)) (λ x. length (transitions_after (product sizes) x es)) (1 + length sizes) (range_with_len 0 size)
    (λ x. omega (arith, few-cells_of sizes (transitions_after (product sizes) x es), any-few (transitions_after (product sizes) x es))) in
    let few = mul-le (1 + length sizes) (sum_by (λ x. length (transitions_after (product sizes) x es)) (range_with_len 0 size)) (1 + length sizes) (length es) (omega arith) (few-after_digit (product sizes) size es) in
    omega (arith, digits, few)

length-by_letters : (base : ℕ) (letters : List ℕ) → length (by_letters base letters) ≡ length letters
length-by_letters base [] = refl
length-by_letters base (l ∷ letters) = ap suc (length-by_letters base letters)

-- a run of letters that begin with one digit, from where these begin, and the letters after them
record IsLetterRun (base size weight digit low : ℕ) (run rest : List ℕ) : Type 0 where
  pub low_is : low ≡ base + digit * weight
  pub small : digit < size
  pub fits : low + weight ≤ base + size * weight
  pub positive : 0 < weight
  pub some : 0 < length run
  pub from : All (λ letter. low ≤ letter) run
  pub below : All (λ letter. letter < low + weight) run
  pub later : All (λ letter. low + weight ≤ letter) rest

run-after_digit : (base low k : ℕ) (run : List ℕ) → low ≡ base + k → AllByRecursion (λ letter. low ≤ letter) run → map (after_digit k) (by_letters low run) ≡ by_letters base run
run-after_digit base low k [] is from = refl
run-after_digit base low k (l ∷ run) is from =
    let same : k + (l - low) ≡ l - base = omega (arith, is, from.0) in
    ap (λ n. transition_to n 0 ∷ map (after_digit k) (by_letters low run)) same ∙ ap (λ (es : List Transition). transition_to (l - base) 0 ∷ es) (run-after_digit base low k run is from.1)

run-below : (low weight : ℕ) (run : List ℕ) → 0 < weight → AllByRecursion (λ letter. letter < low + weight) run → AreBelow weight (by_letters low run)
run-below low weight [] positive below = tt
run-below low weight (l ∷ run) positive below = (omega (arith, positive, below.0), run-below low weight run positive below.1)

later-none : (base weight digit : ℕ) (later : List ℕ) → 0 < weight → AllByRecursion (λ letter. base + digit * weight + weight ≤ letter) later → transitions_after weight digit (by_letters base later) ≡ []
later-none base weight digit [] positive from = refl
later-none base weight digit (l ∷ later) positive from =
    after_digit-other weight digit (transition_to (l - base) 0) (by_letters base later)
    (λ same. omega (arith, from.0, div-add-mod' (l - base) weight, mod_below (l - base) weight positive, ap (λ n. n * weight) same))
    ∙ later-none base weight digit later positive from.1

-- a run takes one cell, and those that its letters take on the later tracks
cells-run : (size : ℕ) (sizes : List ℕ) (base digit low : ℕ) (run later : List ℕ) → IsLetterRun base size (product sizes) digit low run later
    → cells_of (size ∷ sizes) (by_letters base (run ++ later)) ≡ (1 + cells_of sizes (by_letters low run)) + cells_of (size ∷ sizes) (by_letters base later)
cells-run size sizes base digit low run later is =
    let w : ℕ = product sizes in
    ap (cells_of (size ∷ sizes)) (map-append (λ letter. transition_to (letter - base) 0) run later ∙ ap (λ es. es ++ by_letters base later) (sym (run-after_digit base low (digit * w) run is.low_is (recursion_from_All (λ letter. low ≤ letter) run is.from))))
    ∙ cells-digit size sizes digit (by_letters low run) (by_letters base later) is.small
    (run-below low w run is.positive (recursion_from_All (λ letter. letter < low + w) run is.below))
    (omega (arith, is.some, length-by_letters low run))
    (later-none base w digit later is.positive (subst (λ n. AllByRecursion (λ letter. n + w ≤ letter) later) is.low_is (recursion_from_All (λ letter. low + w ≤ letter) later is.later)))

-- ascending letters are no lower than the first
first-least : (letters : List ℕ) → AllPairs (λ l m. l < m) letters → All (λ letter. get_or letters 0 0 ≤ letter) letters
first-least letters ascending zero d within = omega (arith, get_or_default letters 0 0 d within)
first-least letters ascending (suc k) d within = omega (arith, ascending 0 (suc k) d (omega arith) within, get_or_default letters 0 0 d (omega (arith, within)))

ascending-drop : (letters : List ℕ) (place : ℕ) → AllPairs (λ l m. l < m) letters → AllPairs (λ l m. l < m) (drop place letters)
ascending-drop letters place ascending i j d before within =
    let there : place + j < length letters = omega (arith, within, length-drop place letters) in
    omega (arith, ascending (place + i) (place + j) d (omega (arith, before)) there, get_or-drop place letters i d, get_or-drop place letters j d)

-- those from a place on are no lower than a bound that the letter there is not below
pub from_place : (letters : List ℕ) (place bound : ℕ) → AllPairs (λ l m. l < m) letters → bound ≤ get_or letters place 0 → All (λ letter. bound ≤ letter) (drop place letters)
from_place letters place bound ascending least k d within =
    let here : place + 0 ≡ place = omega arith in
    omega (arith, least, first-least (drop place letters) (ascending-drop letters place ascending) k d within, get_or-drop place letters 0 0, ap (λ n. get_or letters n 0) here)

ascending-take : (letters : List ℕ) (count : ℕ) → count ≤ length letters → AllPairs (λ l m. l < m) letters → AllPairs (λ l m. l < m) (take count letters)
ascending-take letters count fits ascending i j d before within =
    let short : j < count = omega (arith, within, length-take count letters) in
    omega (arith, ascending i j d before (omega (arith, short, fits)), get_or-take count letters i d (omega (arith, before, short)), get_or-take count letters j d short)

-- the letters from a place on, and some first of them, ascend too
pub ascending-part : (letters : List ℕ) (place count : ℕ) → count ≤ length (drop place letters) → AllPairs (λ l m. l < m) letters → AllPairs (λ l m. l < m) (take count (drop place letters))
ascending-part letters place count fits ascending = ascending-take (drop place letters) count fits (ascending-drop letters place ascending)

-- the numbers from a place on, as a slice
pub rest-is : (numbers : List ℕ) (place : ℕ) → take (length numbers - place) (drop place numbers) ≡ drop place numbers
rest-is numbers place = take_all (length numbers - place) (drop place numbers) (omega (arith, length-drop place numbers))

first-and-later : (sizes : List ℕ) → 0 < length sizes → sizes ≡ get_or sizes 0 0 ∷ drop 1 sizes
first-and-later [] some = absurd (omega arith)
first-and-later (s ∷ sizes) some = refl

first-there : (sizes : List ℕ) → 0 < length sizes → Some (get_or sizes 0 0) ≡ slice_get sizes 0
first-there [] some = absurd (omega arith)
first-there (s ∷ sizes) some = refl

-- the letters below those of the next digit are a run, where the first of them has the digit
IsLetterRun-found : (base size weight low count : ℕ) (letters : List ℕ) → 0 < length letters
    → All (λ letter. (base ≤ letter) × (letter < base + size * weight)) letters → AllPairs (λ l m. l < m) letters
    → low ≡ base + (get_or letters 0 0 - base) / weight * weight
    → All (λ letter. letter < low + weight) (take count letters) → All (λ letter. low + weight ≤ letter) (drop count letters)
    → IsLetterRun base size weight ((get_or letters 0 0 - base) / weight) low (take count letters) (drop count letters)
IsLetterRun-found base size weight low count letters some from ascending low_is below later = record {
  low_is = low_is;
  small = small;
  fits = omega (arith, low_is, mul-le (digit + 1) weight size weight (omega (arith, small)) (omega arith));
  positive = positive;
  some = nonempty count later;
  from = All-take (λ letter. low ≤ letter) count letters (λ k d within. omega (arith, first-least letters ascending k d within, low_is, whole, range.0));
  below = below;
  later = later;
}
  where
    digit : ℕ
    digit = (get_or letters 0 0 - base) / weight

    range : (base ≤ get_or letters 0 0) × (get_or letters 0 0 < base + size * weight)
    range = from 0 0 some

    positive : 0 < weight
    positive = positive_right size weight (omega (arith, range.0, range.1))

    small : digit < size
    small = div_below (get_or letters 0 0 - base) weight size positive (omega (arith, range.0, range.1))

    whole : digit * weight + (get_or letters 0 0 - base) % weight ≡ get_or letters 0 0 - base
    whole = div-add-mod' (get_or letters 0 0 - base) weight

    nonempty : (n : ℕ) → All (λ letter. low + weight ≤ letter) (drop n letters) → 0 < length (take n letters)
    nonempty zero all = absurd (omega (arith, all 0 0 some, low_is, whole, range.0, mod_below (get_or letters 0 0 - base) weight positive))
    nonempty (suc n) all = omega (arith, length-take (suc n) letters, some)

-- a run from a place on: so many letters, from where those with its digit begin
pub record IsNextRun (sizes : List ℕ) (count base : ℕ) (letters : List ℕ) (place weight low run : ℕ) : Type 0 where
  pub weight_is : weight ≡ product (drop 1 sizes)
  pub positive : 0 < weight
  pub tracks : length (drop 1 sizes) + 1 ≡ length sizes
  pub fits : low + weight ≤ base + count
  pub some : 0 < length (take run (drop place letters))
  pub in_range : All (λ letter. (low ≤ letter) × (letter < low + weight)) (take run (drop place letters))
  pub cells : cells_of sizes (by_letters base (drop place letters)) ≡ (1 + cells_of (drop 1 sizes) (by_letters low (take run (drop place letters)))) + cells_of sizes (by_letters base (drop (place + run) letters))

IsNextRun-found : (sizes : List ℕ) (size base : ℕ) (letters : List ℕ) (place digit low run : ℕ) → sizes ≡ size ∷ drop 1 sizes
    → IsLetterRun base size (product (drop 1 sizes)) digit low (take run (drop place letters)) (drop run (drop place letters))
    → IsNextRun sizes (product sizes) base letters place (product (drop 1 sizes)) low run
IsNextRun-found sizes size base letters place digit low run parts is = record {
  weight_is = refl;
  positive = is.positive;
  tracks = omega (arith, ap length parts);
  fits = omega (arith, is.fits, ap product parts);
  some = is.some;
  in_range = λ k d within. (is.from k d within, is.below k d within);
  cells =
      ap (λ ss. cells_of ss (by_letters base (drop place letters))) parts
      ∙ ap (λ ls. cells_of (size ∷ drop 1 sizes) (by_letters base ls)) (sym (take-append-drop run (drop place letters)))
      ∙ cells-run size (drop 1 sizes) base digit low (take run (drop place letters)) (drop run (drop place letters)) is
      ∙ ap (λ ss. (1 + cells_of (drop 1 sizes) (by_letters low (take run (drop place letters)))) + cells_of ss (by_letters base (drop run (drop place letters)))) (sym parts)
      ∙ ap (λ ls. (1 + cells_of (drop 1 sizes) (by_letters low (take run (drop place letters)))) + cells_of sizes (by_letters base ls)) (drop-drop place run letters);
}

-- the run that is found by a division, and by a search among the letters from a place on
pub IsNextRun-next : (sizes : List ℕ) (count base : ℕ) (letters : List ℕ) (place first low run : ℕ)
    → 0 < length sizes → product sizes ≡ count → 0 < count
    → All (λ letter. (base ≤ letter) × (letter < base + count)) letters → AllPairs (λ l m. l < m) letters → place < length letters
    → first ≡ get_or (take (length letters - place) (drop place letters)) 0 0
    → low ≡ base + (first - base) / (count / get_or sizes 0 0) * (count / get_or sizes 0 0)
    → All (λ letter. letter < low + count / get_or sizes 0 0) (take run (take (length letters - place) (drop place letters)))
    → All (λ letter. low + count / get_or sizes 0 0 ≤ letter) (drop run (take (length letters - place) (drop place letters)))
    → IsNextRun sizes count base letters place (count / get_or sizes 0 0) low run
IsNextRun-next sizes count base letters place first low run some letters_are positive from ascending within first_is low_is below later =
    subst (λ n. IsNextRun sizes n base letters place (count / get_or sizes 0 0) low run) letters_are
    (subst (λ n. IsNextRun sizes (product sizes) base letters place n low run) (sym weight)
    (IsNextRun-found sizes size base letters place ((get_or rest 0 0 - base) / w) low run parts
    (IsLetterRun-found base size w low run rest (omega (arith, within, length-drop place letters))
    (λ k d inside. (All-drop (λ letter. base ≤ letter) place letters (λ i z there. (from i z there).0) k d inside, omega (arith, All-drop (λ letter. letter < base + count) place letters (λ i z there. (from i z there).1) k d inside, whole)))
    (ascending-drop letters place ascending)
    (low_is ∙ ap (λ n. base + (first - base) / n * n) weight ∙ ap (λ n. base + (n - base) / w * w) (first_is ∙ ap (λ ls. get_or ls 0 0) (rest-is letters place)))
    (subst (λ n. All (λ letter. letter < low + n) (take run rest)) weight (subst (λ ls. All (λ letter. letter < low + count / get_or sizes 0 0) (take run ls)) (rest-is letters place) below))
    (subst (λ n. All (λ letter. low + n ≤ letter) (drop run rest)) weight (subst (λ ls. All (λ letter. low + count / get_or sizes 0 0 ≤ letter) (drop run ls)) (rest-is letters place) later)))))
  where
    size : ℕ
    size = get_or sizes 0 0

    rest : List ℕ
    rest = drop place letters

    w : ℕ
    w = product (drop 1 sizes)

    weight : count / get_or sizes 0 0 ≡ w
    weight = first_weight sizes size count (first-there sizes some) letters_are positive

    parts : sizes ≡ size ∷ drop 1 sizes
    parts = first-and-later sizes some

    whole : count ≡ size * w
    whole = sym letters_are ∙ ap product parts

-- with the run the cells so far are one more, and those that its letters take on the later tracks
pub cells-next : (sizes : List ℕ) (count base : ℕ) (letters : List ℕ) (place weight low run cells more : ℕ)
    → IsNextRun sizes count base letters place weight low run
    → cells + cells_of sizes (by_letters base (drop place letters)) ≡ cells_of sizes (by_letters base letters)
    → more ≡ cells_of (take (length sizes - 1) (drop 1 sizes)) (by_letters low (take run (take (length letters - place) (drop place letters))))
    → (cells + (1 + more)) + cells_of sizes (by_letters base (drop (place + run) letters)) ≡ cells_of sizes (by_letters base letters)
cells-next sizes count base letters place weight low run cells more is before more_is =
    let later : more ≡ cells_of (drop 1 sizes) (by_letters low (take run (drop place letters))) =
    more_is ∙ ap (λ ss. cells_of ss (by_letters low (take run (take (length letters - place) (drop place letters))))) (rest-is sizes 1) ∙ ap (λ ls. cells_of (drop 1 sizes) (by_letters low (take run ls))) (rest-is letters place) in
    omega (arith, is.cells, before, later)

-- the cells of letters are no more than the letters on each track
pub few-by_letters : (sizes : List ℕ) (base : ℕ) (letters : List ℕ) → cells_of sizes (by_letters base letters) ≤ length sizes * length letters
few-by_letters sizes base letters = omega (arith, few-cells_of sizes (by_letters base letters), ap (λ n. length sizes * n) (length-by_letters base letters))

-- on one track each letter takes a cell
cells-one_track : (size base : ℕ) (letters : List ℕ) → All (λ letter. (base ≤ letter) × (letter < base + size)) letters → AllPairs (λ l m. l < m) letters → cells_of (size ∷ []) (by_letters base letters) ≡ length letters
cells-one_track size base [] from ascending = cells_of-none (size ∷ [])
cells-one_track size base (l ∷ letters) from ascending =
    let here = from 0 0 (omega arith) in
    let one = cells-run size [] base (l - base) l (l ∷ []) letters (record {
      low_is = omega (arith, here.0);
      small = omega (arith, here.0, here.1);
      fits = omega (arith, here.0, here.1);
      positive = omega arith;
      some = omega arith;
      from = All-cons (λ letter. l ≤ letter) l [] (omega arith) (All-nil (λ letter. l ≤ letter));
      below = All-cons (λ letter. letter < l + 1) l [] (omega arith) (All-nil (λ letter. letter < l + 1));
      later = λ k d within. omega (arith, ascending 0 (suc k) d (omega arith) (omega (arith, within)));
    }) in
    let rest = cells-one_track size base letters (All-tail (λ letter. (base ≤ letter) × (letter < base + size)) l letters from) (λ i j d before within. ascending (suc i) (suc j) d (omega arith) (omega (arith, within))) in
    omega (arith, one, rest)

-- and so where the sizes are those of one track
pub cells-one : (sizes : List ℕ) (count base : ℕ) (letters : List ℕ) → length sizes ≡ 1 → product sizes ≡ count
    → All (λ letter. (base ≤ letter) × (letter < base + count)) letters → AllPairs (λ l m. l < m) letters → cells_of sizes (by_letters base letters) ≡ length letters
cells-one [] count base letters one letters_are from ascending = absurd (omega arith)
cells-one (size ∷ []) count base letters one letters_are from ascending = cells-one_track size base letters (λ k d within. ((from k d within).0, omega (arith, (from k d within).1, letters_are))) ascending
cells-one (size ∷ (s ∷ sizes)) count base letters one letters_are from ascending = absurd (omega arith)
