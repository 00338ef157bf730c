-- Reads of rows that are joined after digits.
use Rattle.std.proofs.Common.{◌≡◌, ◌≢◌, ℕ, zero, suc, ◌+◌, ◌*◌, ◌/◌, ◌%◌, ◌<◌, ◌≤◌, ◌⊎◌, inl, inr, List, [], ◌∷◌, ◌++◌, map, take, drop, length, get_or, None, refl, sym, ap, ◌∙◌, append_assoc, length-append, length-drop, length-take, arith}
use Rattle.std.specs.List.{sum_by, All, AllPairs, AllByRecursion}
use Rattle.std.proofs.lemmas.Bool.{cases_order}
use Rattle.std.proofs.lemmas.Nat.{div-mul-add, div-add-mod', mul-le}
use Rattle.std.proofs.lemmas.List.{append-nil}
use Rattle.std.proofs.lemmas.List.Sums.{sum_by-cons, sum_by-take-drop}
use Rattle.digit_tuple.specs.Reversed.{transition_to}
use Rattle.digit_tuple.specs.Deterministic.{target_by}
use Rattle.digit_tuple.specs.Decisions.{after_digit, joined, joined_rows, HasTransition}
use Rattle.digit_tuple.specs.declared.transitions.Transition.{Transition}
use Rattle.digit_tuple.proofs.DfaLemmas.{target_by-first, target_by-other}

-- each digit has the row at its place
pub joined-take : (w : ℕ) (ds : List ℕ) (rows : List (List Transition)) → joined w ds (take (length ds) rows) ≡ joined w ds rows
joined-take w [] rows = refl
joined-take w (d ∷ ds) [] = refl
joined-take w (d ∷ ds) (r ∷ rows) = ap (λ es. map (after_digit (d * w)) r ++ es) (joined-take w ds rows)

pub drop-drop : {A : Type 0} (m n : ℕ) (xs : List A) → drop n (drop m xs) ≡ drop (m + n) xs
drop-drop zero n xs = let same : 0 + n ≡ n = omega arith in ap (λ k. drop k xs) (sym same)
drop-drop (suc m) zero [] = let same : suc m + 0 ≡ suc m = omega arith in ap (λ k. drop k []) (sym same)
drop-drop (suc m) (suc n) [] = let same : suc m + suc n ≡ suc (m + suc n) = omega arith in ap (λ k. drop k []) (sym same)
drop-drop (suc m) n (x ∷ xs) = let same : suc m + n ≡ suc (m + n) = omega arith in drop-drop m n xs ∙ ap (λ k. drop k (x ∷ xs)) (sym same)

-- the row at a place
pub joined_rows-at : (w : ℕ) (xs : List (List ℕ)) (rows : List (List Transition)) (q : ℕ) → q < length xs → get_or (joined_rows w xs rows) q [] ≡ joined w (get_or xs q []) (drop (sum_by length (take q xs)) rows)
joined_rows-at w [] rows q within = absurd (omega arith)
joined_rows-at w (x ∷ xs) rows zero within = joined-take w x rows
joined_rows-at w (x ∷ xs) rows (suc q) within =
    joined_rows-at w xs (drop (length x) rows) q (omega arith)
    ∙ ap (joined w (get_or xs q [])) (drop-drop (length x) (sum_by length (take q xs)) rows ∙ ap (λ n. drop n rows) (sym (sum_by-cons length x (take q xs))))

-- the rows after its digits are among all rows
pub places_within : (xs : List (List ℕ)) (q : ℕ) → q < length xs → sum_by length (take q xs) + length (get_or xs q []) ≤ sum_by length xs
places_within [] q within = absurd (omega arith)
places_within (x ∷ xs) zero within = omega (arith, sum_by-cons length x xs)
places_within (x ∷ xs) (suc q) within = omega (arith, sum_by-cons length x xs, sum_by-cons length x (take q xs), places_within xs q (omega arith))

-- one more of the digits
pub joined_more : (w : ℕ) (ds : List ℕ) (rows : List (List Transition)) (k z : ℕ) → k < length ds → k < length rows → joined w (take (suc k) ds) rows ≡ joined w (take k ds) rows ++ map (after_digit (get_or ds k z * w)) (get_or rows k [])
joined_more w [] rows k z within there = absurd (omega arith)
joined_more w (d ∷ ds) [] k z within there = absurd (omega arith)
joined_more w (d ∷ ds) (r ∷ rows) zero z within there = append-nil (map (after_digit (d * w)) r)
joined_more w (d ∷ ds) (r ∷ rows) (suc k) z within there =
    ap (λ es. map (after_digit (d * w)) r ++ es) (joined_more w ds rows k z (omega arith) (omega arith))
    ∙ sym (append_assoc (map (after_digit (d * w)) r) (joined w (take k ds) rows) (map (after_digit (get_or ds k z * w)) (get_or rows k [])))

-- after two bases
pub map-after_digit : (b c : ℕ) (row : List Transition) → map (after_digit b) (map (after_digit c) row) ≡ map (after_digit (b + c)) row
map-after_digit b c [] = refl
map-after_digit b c (e ∷ row) = let same : b + (c + e.letter) ≡ b + c + e.letter = omega arith in ap (λ n. transition_to n e.target ∷ map (after_digit b) (map (after_digit c) row)) same ∙ ap (λ es. after_digit (b + c) e ∷ es) (map-after_digit b c row)

pub map-after_zero : (row : List Transition) → map (after_digit 0) row ≡ row
map-after_zero [] = refl
map-after_zero (e ∷ row) = let same : 0 + e.letter ≡ e.letter = omega arith in ap (λ n. transition_to n e.target ∷ map (after_digit 0) row) same ∙ ap (λ es. e ∷ es) (map-after_zero row)

-- all letters are below a number
abbrev pub AreBelow : ℕ → List Transition → Type 0
AreBelow w row = AllByRecursion (λ e. e.letter < w) row

-- equal or not
cases_ne : (m n : ℕ) → (m ≡ n) ⊎ (m ≢ n)
cases_ne m n = by (cases_order m n)
  where
    by : (m ≡ n) ⊎ ((m < n) ⊎ (n < m)) → (m ≡ n) ⊎ (m ≢ n)
    by (inl same) = inl same
    by (inr (inl less)) = inr (λ same. omega (arith, less, same))
    by (inr (inr more)) = inr (λ same. omega (arith, more, same))

-- a search goes on after transitions that have not the letter
target_by-past : (es fs : List Transition) (a : ℕ) → target_by es a ≡ None → target_by (es ++ fs) a ≡ target_by fs a
target_by-past [] fs a none = refl
target_by-past (e ∷ es) fs a none = by (cases_ne e.letter a) (λ differ. target_by-past es fs a (sym (target_by-other e es a differ) ∙ none))
  where
    by : (e.letter ≡ a) ⊎ (e.letter ≢ a) → (e.letter ≢ a → target_by (es ++ fs) a ≡ target_by fs a) → target_by ((e ∷ es) ++ fs) a ≡ target_by fs a
    by (inl same) rest = absurd (let first = target_by-first e es a same in let no : ⊥ = cc in no)
    by (inr differ) rest = target_by-other e (es ++ fs) a differ ∙ rest differ

-- and ends before transitions that have not the letter
target_by-before : (es fs : List Transition) (a : ℕ) → target_by fs a ≡ None → target_by (es ++ fs) a ≡ target_by es a
target_by-before [] fs a none = none
target_by-before (e ∷ es) fs a none = by (cases_ne e.letter a) (target_by-before es fs a none)
  where
    by : (e.letter ≡ a) ⊎ (e.letter ≢ a) → target_by (es ++ fs) a ≡ target_by es a → target_by ((e ∷ es) ++ fs) a ≡ target_by (e ∷ es) a
    by (inl same) rest = target_by-first e (es ++ fs) a same ∙ sym (target_by-first e es a same)
    by (inr differ) rest = target_by-other e (es ++ fs) a differ ∙ rest ∙ sym (target_by-other e es a differ)

-- a row after another digit has not the letter
target_by-other_digit : (w d a : ℕ) (row : List Transition) → AreBelow w row → d ≢ a / w → target_by (map (after_digit (d * w)) row) a ≡ None
target_by-other_digit w d a [] below other = refl
target_by-other_digit w d a (e ∷ row) below other =
    target_by-other (after_digit (d * w) e) (map (after_digit (d * w)) row) a (λ same. other (sym (div-mul-add d w e.letter below.0) ∙ ap (λ n. n / w) same))
    ∙ target_by-other_digit w d a row below.1 other

-- a row after the digit of the letter has it where the row has the rest
target_by-digit : (w d a : ℕ) (row : List Transition) → d ≡ a / w → target_by (map (after_digit (d * w)) row) a ≡ target_by row (a % w)
target_by-digit w d a [] same = refl
target_by-digit w d a (e ∷ row) same = by (cases_ne e.letter (a % w)) (target_by-digit w d a row same)
  where
    whole : d * w + a % w ≡ a
    whole = ap (λ n. n * w + a % w) same ∙ div-add-mod' a w

    by : (e.letter ≡ a % w) ⊎ (e.letter ≢ a % w) → target_by (map (after_digit (d * w)) row) a ≡ target_by row (a % w) → target_by (map (after_digit (d * w)) (e ∷ row)) a ≡ target_by (e ∷ row) (a % w)
    by (inl is) rest = target_by-first (after_digit (d * w) e) (map (after_digit (d * w)) row) a (ap (λ n. d * w + n) is ∙ whole) ∙ sym (target_by-first e row (a % w) is)
    by (inr differ) rest = target_by-other (after_digit (d * w) e) (map (after_digit (d * w)) row) a (λ is. differ (omega (arith, is, whole))) ∙ rest ∙ sym (target_by-other e row (a % w) differ)

-- no digit is that of the letter
pub joined-none : (w a : ℕ) (ds : List ℕ) (rows : List (List Transition)) → AllByRecursion (AreBelow w) rows → All (λ d. d ≢ a / w) ds → target_by (joined w ds rows) a ≡ None
joined-none w a [] rows below other = refl
joined-none w a (d ∷ ds) [] below other = refl
joined-none w a (d ∷ ds) (r ∷ rows) below other =
    target_by-past (map (after_digit (d * w)) r) (joined w ds rows) a (target_by-other_digit w d a r below.0 (other 0 d (omega arith)))
    ∙ joined-none w a ds rows below.1 (λ k z within. other (suc k) z (omega arith))

-- the digit at a place is that of the letter
pub joined-at : (w a : ℕ) (ds : List ℕ) (rows : List (List Transition)) (k z : ℕ) → AllByRecursion (AreBelow w) rows → AllPairs (λ d e. d < e) ds → k < length ds → k < length rows → get_or ds k z ≡ a / w
    → target_by (joined w ds rows) a ≡ target_by (get_or rows k []) (a % w)
joined-at w a [] rows k z below ascending within there is = absurd (omega arith)
joined-at w a (d ∷ ds) [] k z below ascending within there is = absurd (omega arith)
joined-at w a (d ∷ ds) (r ∷ rows) zero z below ascending within there is =
    target_by-before (map (after_digit (d * w)) r) (joined w ds rows) a
    (joined-none w a ds rows below.1 (λ k y inside same. let less = ascending 0 (suc k) y (omega arith) (omega arith) in omega (arith, less, is, same)))
    ∙ target_by-digit w d a r is
joined-at w a (d ∷ ds) (r ∷ rows) (suc k) z below ascending within there is =
    target_by-past (map (after_digit (d * w)) r) (joined w ds rows) a
    (target_by-other_digit w d a r below.0 (λ same. let less = ascending 0 (suc k) z (omega arith) within in omega (arith, less, is, same)))
    ∙ joined-at w a ds rows k z below.1 (λ i j y before inside. ascending (suc i) (suc j) y (omega arith) (omega arith)) (omega arith) (omega arith) is

-- letters after a digit are below those of the next digit
AreBelow-after_digit : (size w d : ℕ) (row : List Transition) → d < size → AreBelow w row → AreBelow (size * w) (map (after_digit (d * w)) row)
AreBelow-after_digit size w d [] less below = tt
AreBelow-after_digit size w d (e ∷ row) less below =
    (let more = mul-le (suc d) w size w (omega arith) (omega arith) in omega (arith, more, below.0), AreBelow-after_digit size w d row less below.1)

pub AreBelow-append : (w : ℕ) (es fs : List Transition) → AreBelow w es → AreBelow w fs → AreBelow w (es ++ fs)
AreBelow-append w [] fs below more = more
AreBelow-append w (e ∷ es) fs below more = (below.0, AreBelow-append w es fs below.1 more)

AreBelow-joined : (size w : ℕ) (ds : List ℕ) (rows : List (List Transition)) → All (λ d. d < size) ds → AllByRecursion (AreBelow w) rows → AreBelow (size * w) (joined w ds rows)
AreBelow-joined size w [] rows small below = tt
AreBelow-joined size w (d ∷ ds) [] small below = tt
AreBelow-joined size w (d ∷ ds) (r ∷ rows) small below =
    AreBelow-append (size * w) (map (after_digit (d * w)) r) (joined w ds rows) (AreBelow-after_digit size w d r (small 0 d (omega arith)) below.0)
    (AreBelow-joined size w ds rows (λ k z within. small (suc k) z (omega arith)) below.1)

pub all_take : {A : Type 0} (P : A → Type 0) (n : ℕ) (xs : List A) → AllByRecursion P xs → AllByRecursion P (take n xs)
all_take P zero [] all = tt
all_take P zero (x ∷ xs) all = tt
all_take P (suc n) [] all = tt
all_take P (suc n) (x ∷ xs) all = (all.0, all_take P n xs all.1)

pub all_drop : {A : Type 0} (P : A → Type 0) (n : ℕ) (xs : List A) → AllByRecursion P xs → AllByRecursion P (drop n xs)
all_drop P zero xs all = all
all_drop P (suc n) [] all = tt
all_drop P (suc n) (x ∷ xs) all = all_drop P n xs all.1

pub all_at : {A : Type 0} (P : A → Type 0) (xs : List A) (k : ℕ) (d : A) → AllByRecursion P xs → k < length xs → P (get_or xs k d)
all_at P [] k d all within = absurd (omega arith)
all_at P (x ∷ xs) zero d all within = all.0
all_at P (x ∷ xs) (suc k) d all within = all_at P xs k d all.1 (omega arith)

-- so the letters of all rows are below the letters of the track and the later ones
pub AreBelow-rows : (size w : ℕ) (xs : List (List ℕ)) (rows : List (List Transition)) → AllByRecursion (All (λ d. d < size)) xs → AllByRecursion (AreBelow w) rows → AllByRecursion (AreBelow (size * w)) (joined_rows w xs rows)
AreBelow-rows size w [] rows small below = tt
AreBelow-rows size w (x ∷ xs) rows small below = (
  AreBelow-joined size w x (take (length x) rows) small.0 (all_take (AreBelow w) (length x) rows below),
  AreBelow-rows size w xs (drop (length x) rows) small.1 (all_drop (AreBelow w) (length x) rows below),
)

length-map' : (b : ℕ) (row : List Transition) → length (map (after_digit b) row) ≡ length row
length-map' b [] = refl
length-map' b (e ∷ row) = ap suc (length-map' b row)

-- joined rows have as many transitions
length-joined : (w : ℕ) (ds : List ℕ) (rows : List (List Transition)) → length ds ≡ length rows → length (joined w ds rows) ≡ sum_by length rows
length-joined w [] [] same = refl
length-joined w [] (r ∷ rows) same = absurd (omega arith)
length-joined w (d ∷ ds) [] same = absurd (omega arith)
length-joined w (d ∷ ds) (r ∷ rows) same =
    omega (arith, length-append (map (after_digit (d * w)) r) (joined w ds rows), length-map' (d * w) r, length-joined w ds rows (omega arith), sum_by-cons length r rows)

pub sum-joined_rows : (w : ℕ) (xs : List (List ℕ)) (rows : List (List Transition)) → sum_by length xs ≡ length rows → sum_by length (joined_rows w xs rows) ≡ sum_by length rows
sum-joined_rows w [] [] same = refl
sum-joined_rows w [] (r ∷ rows) same = absurd (omega arith)
sum-joined_rows w (x ∷ xs) rows same =
    let total = sum_by-cons length x xs in
    let here = length-joined w x (take (length x) rows) (omega (arith, total, length-take (length x) rows)) in
    let rest = sum-joined_rows w xs (drop (length x) rows) (omega (arith, total, length-drop (length x) rows)) in
    omega (arith, here, rest, sum_by-cons length (joined w x (take (length x) rows)) (joined_rows w xs (drop (length x) rows)), sum_by-take-drop length rows (length x))

-- no transitions, no digits
pub joined-empty : (w : ℕ) (ds : List ℕ) (rows : List (List Transition)) → length ds ≤ length rows → AllByRecursion HasTransition rows → joined w ds rows ≡ [] → ds ≡ []
joined-empty w [] rows fits filled none = refl
joined-empty w (d ∷ ds) [] fits filled none = absurd (omega arith)
joined-empty w (d ∷ ds) (r ∷ rows) fits filled none =
    absurd (omega (arith, ap length none, length-append (map (after_digit (d * w)) r) (joined w ds rows), length-map' (d * w) r, filled.0))
