-- The digits that are kept are the cells of the rows.
use Rattle.std.proofs.Common.{◌≡◌, ◌≢◌, ◌==◌, ℕ, suc, zero, ◌+◌, ◌*◌, ◌/◌, ◌%◌, ◌<◌, ◌≤◌, ◌⊎◌, inl, inr, Bool, true, false, List, [], ◌∷◌, ◌++◌, map, take, drop, length, refl, sym, ap, ◌∙◌, subst, if◌then◌else◌, length-take, length-drop, arith}
use Rattle.std.specs.List.{sum_by, range_with_len, All, AllPairs, AllByRecursion}
use Rattle.std.proofs.lemmas.Bool.{cases_eq, cases_lt}
use Rattle.std.proofs.lemmas.Bool.Decides.{eqb_tells, Decides-eqb}
use Rattle.std.proofs.lemmas.Nat.{div-mul-add, mod-mul-add}
use Rattle.std.proofs.lemmas.List.{append-nil}
use Rattle.std.proofs.lemmas.List.Sums.{sum_by-cons, sum_by-take-drop}
use Rattle.digit_tuple.specs.Letters.{product}
use Rattle.digit_tuple.specs.Reversed.{transition_to}
use Rattle.digit_tuple.specs.CellCounts.{transitions_after, one_if_any, cells_of}
use Rattle.digit_tuple.specs.Decisions.{after_digit, joined, joined_rows, only_transition, rows_in, sizes_in, cells_in, AreDigitsBelow, HasTransition, IsSound}
use Rattle.digit_tuple.specs.SparseRows.{DecideRows}
use Rattle.digit_tuple.specs.declared.transitions.Transition.{Transition}
use Rattle.digit_tuple.specs.declared.decisions.Decisions.{Decisions}
use Rattle.digit_tuple.specs.declared.decisions.Decisions.TheVariants.{Targets, OnTrack'}
use Rattle.digit_tuple.proofs.JoinedReads.{AreBelow, all_take, all_drop}
use Rattle.digit_tuple.proofs.DecisionReads.{letters-below}
use Rattle.digit_tuple.proofs.SparseRowLemmas.{decide-product}

-- sums over numbers after the one at which the terms differ
sum-same : (f g : ℕ → ℕ) (from n d : ℕ) → d < from → ((x : ℕ) → d ≢ x → f x ≡ g x) → sum_by f (range_with_len from n) ≡ sum_by g (range_with_len from n)
sum-same f g from zero d past same = refl
sum-same f g from (suc n) d past same =
    let here = same from (λ is. omega (arith, past, is)) in
    let rest = sum-same f g (from + 1) n d (omega arith) same in
    omega (arith, here, rest, sum_by-cons f from (range_with_len (from + 1) n), sum_by-cons g from (range_with_len (from + 1) n))

-- sums over numbers of which one has a larger term
pub sum-larger : (f g : ℕ → ℕ) (from n d more : ℕ) → from ≤ d → d < from + n → f d ≡ more + g d → ((x : ℕ) → d ≢ x → f x ≡ g x) → sum_by f (range_with_len from n) ≡ more + sum_by g (range_with_len from n)
sum-larger f g from zero d more low high larger same = absurd (omega arith)
sum-larger f g from (suc n) d more low high larger same = by (cases_eq d from) (λ above. sum-larger f g (from + 1) n d more above (omega (arith, high)) larger same)
  where
    whole : sum_by f (range_with_len from (suc n)) ≡ f from + sum_by f (range_with_len (from + 1) n)
    whole = sum_by-cons f from (range_with_len (from + 1) n)

    other : sum_by g (range_with_len from (suc n)) ≡ g from + sum_by g (range_with_len (from + 1) n)
    other = sum_by-cons g from (range_with_len (from + 1) n)

    by : (d ≡ from) ⊎ ¬ (d ≡ from) → (from + 1 ≤ d → sum_by f (range_with_len (from + 1) n) ≡ more + sum_by g (range_with_len (from + 1) n)) → sum_by f (range_with_len from (suc n)) ≡ more + sum_by g (range_with_len from (suc n))
    by (inl is) next =
        let rest = sum-same f g (from + 1) n d (omega (arith, is)) same in
        omega (arith, whole, other, rest, larger, ap f is, ap g is)
    by (inr differ) next =
        let rest = next (omega (arith, low, differ)) in
        omega (arith, whole, other, rest, same from differ)

-- after a digit a transition by a letter that begins with it is by the rest of the letter
pub after_digit-first : (w x : ℕ) (e : Transition) (es : List Transition) → e.letter / w ≡ x → transitions_after w x (e ∷ es) ≡ transition_to (e.letter % w) e.target ∷ transitions_after w x es
after_digit-first w x e es same = ap (λ (b : Bool). if b then transition_to (e.letter % w) e.target ∷ transitions_after w x es else transitions_after w x es) ((Decides-eqb (e.letter / w) x).1 same)

-- and one by another letter is not there
pub after_digit-other : (w x : ℕ) (e : Transition) (es : List Transition) → e.letter / w ≢ x → transitions_after w x (e ∷ es) ≡ transitions_after w x es
after_digit-other w x e es differ = by (eqb_tells (e.letter / w) x)
  where
    by : (((e.letter / w == x) ≡ true) × (e.letter / w ≡ x)) ⊎ (((e.letter / w == x) ≡ false) × (e.letter / w ≢ x)) → transitions_after w x (e ∷ es) ≡ transitions_after w x es
    by (inl same) = absurd (differ same.1)
    by (inr other) = ap (λ (b : Bool). if b then transition_to (e.letter % w) e.target ∷ transitions_after w x es else transitions_after w x es) other.0

after_digit-append : (w x : ℕ) (es fs : List Transition) → transitions_after w x (es ++ fs) ≡ transitions_after w x es ++ transitions_after w x fs
after_digit-append w x [] fs = refl
after_digit-append w x (e ∷ es) fs = by (cases_eq (e.letter / w) x) (after_digit-append w x es fs)
  where
    by : (e.letter / w ≡ x) ⊎ ¬ (e.letter / w ≡ x) → transitions_after w x (es ++ fs) ≡ transitions_after w x es ++ transitions_after w x fs → transitions_after w x (e ∷ (es ++ fs)) ≡ transitions_after w x (e ∷ es) ++ transitions_after w x fs
    by (inl same) rest = after_digit-first w x e (es ++ fs) same ∙ ap (λ gs. transition_to (e.letter % w) e.target ∷ gs) rest ∙ sym (ap (λ gs. gs ++ transitions_after w x fs) (after_digit-first w x e es same))
    by (inr differ) rest = after_digit-other w x e (es ++ fs) differ ∙ rest ∙ sym (ap (λ gs. gs ++ transitions_after w x fs) (after_digit-other w x e es differ))

-- after its digit a row is as it was
after_digit-digit : (w d : ℕ) (row : List Transition) → AreBelow w row → transitions_after w d (map (after_digit (d * w)) row) ≡ row
after_digit-digit w d [] below = refl
after_digit-digit w d (e ∷ row) below =
    after_digit-first w d (after_digit (d * w) e) (map (after_digit (d * w)) row) (div-mul-add d w e.letter below.0)
    ∙ ap (λ n. transition_to n e.target ∷ transitions_after w d (map (after_digit (d * w)) row)) (mod-mul-add d w e.letter below.0)
    ∙ ap (λ es. e ∷ es) (after_digit-digit w d row below.1)

-- and after another digit it has no transition
after_digit-other_digit : (w d x : ℕ) (row : List Transition) → AreBelow w row → d ≢ x → transitions_after w x (map (after_digit (d * w)) row) ≡ []
after_digit-other_digit w d x [] below other = refl
after_digit-other_digit w d x (e ∷ row) below other =
    after_digit-other w x (after_digit (d * w) e) (map (after_digit (d * w)) row) (λ same. other (sym (div-mul-add d w e.letter below.0) ∙ same))
    ∙ after_digit-other_digit w d x row below.1 other

-- after a digit that is not among those of the rows there is no transition
after_digit-none : (w x : ℕ) (ds : List ℕ) (rows : List (List Transition)) → AllByRecursion (AreBelow w) rows → All (λ d. d ≢ x) ds → transitions_after w x (joined w ds rows) ≡ []
after_digit-none w x [] rows below other = refl
after_digit-none w x (d ∷ ds) [] below other = refl
after_digit-none w x (d ∷ ds) (r ∷ rows) below other =
    after_digit-append w x (map (after_digit (d * w)) r) (joined w ds rows)
    ∙ ap (λ es. es ++ transitions_after w x (joined w ds rows)) (after_digit-other_digit w d x r below.0 (other 0 d (omega arith)))
    ∙ after_digit-none w x ds rows below.1 (λ k z within. other (suc k) z (omega arith))

-- what a digit counts for, where these transitions are after it
abbrev pub cells_at : List ℕ → List Transition → ℕ
cells_at sizes transitions = one_if_any transitions + cells_of sizes transitions

pub sum-zero : (xs : List ℕ) → sum_by (λ x. 0) xs ≡ 0
sum-zero [] = refl
sum-zero (x ∷ xs) = omega (arith, sum-zero xs, sum_by-cons (λ (y : ℕ). 0) x xs)

-- no transitions, no cells
pub cells_of-none : (sizes : List ℕ) → cells_of sizes [] ≡ 0
cells_of-none [] = refl
cells_of-none (size ∷ sizes) =
    let none : cells_of sizes [] ≡ 0 = cells_of-none sizes in
    ap (λ n. sum_by (λ (x : ℕ). 0 + n) (range_with_len 0 size)) none ∙ sum-zero (range_with_len 0 size)

cells_at-none : (sizes : List ℕ) → cells_at sizes [] ≡ 0
cells_at-none sizes = omega (arith, cells_of-none sizes)

cells_at-some : (sizes : List ℕ) (row : List Transition) → HasTransition row → cells_at sizes row ≡ 1 + cells_of sizes row
cells_at-some sizes [] some = absurd (omega arith)
cells_at-some sizes (e ∷ row) some = refl

-- a digit more, which is not among the others: one cell more, and those of its row
pub cells-digit : (size : ℕ) (sizes : List ℕ) (d : ℕ) (row es : List Transition) → d < size → AreBelow (product sizes) row → HasTransition row → transitions_after (product sizes) d es ≡ []
    → cells_of (size ∷ sizes) (map (after_digit (d * product sizes)) row ++ es) ≡ (1 + cells_of sizes row) + cells_of (size ∷ sizes) es
cells-digit size sizes d row es small below filled none =
    sum-larger (λ x. cells_at sizes (transitions_after w x (map (after_digit (d * w)) row ++ es))) (λ x. cells_at sizes (transitions_after w x es)) 0 size d (1 + cells_of sizes row)
    (omega arith) (omega (arith, small)) larger elsewhere
  where
    w : ℕ
    w = product sizes

    here : transitions_after w d (map (after_digit (d * w)) row ++ es) ≡ row
    here = after_digit-append w d (map (after_digit (d * w)) row) es ∙ ap (λ fs. fs ++ transitions_after w d es) (after_digit-digit w d row below) ∙ ap (λ fs. row ++ fs) none ∙ append-nil row

    larger : cells_at sizes (transitions_after w d (map (after_digit (d * w)) row ++ es)) ≡ (1 + cells_of sizes row) + cells_at sizes (transitions_after w d es)
    larger =
        let all : cells_at sizes (transitions_after w d (map (after_digit (d * w)) row ++ es)) ≡ cells_at sizes row = ap (cells_at sizes) here in
        let before : cells_at sizes (transitions_after w d es) ≡ 0 = ap (cells_at sizes) none ∙ cells_at-none sizes in
        let some = cells_at-some sizes row filled in
        omega (arith, all, before, some)

    elsewhere : (x : ℕ) → d ≢ x → cells_at sizes (transitions_after w x (map (after_digit (d * w)) row ++ es)) ≡ cells_at sizes (transitions_after w x es)
    elsewhere x other = ap (cells_at sizes) (after_digit-append w x (map (after_digit (d * w)) row) es ∙ ap (λ fs. fs ++ transitions_after w x es) (after_digit-other_digit w d x row below other))

-- the cells of a row are its digits and the cells of the rows after them
cells-joined : (size : ℕ) (sizes ds : List ℕ) (rows : List (List Transition)) → length ds ≡ length rows → All (λ d. d < size) ds → AllPairs (λ d e. d < e) ds → AllByRecursion (AreBelow (product sizes)) rows → AllByRecursion HasTransition rows
    → cells_of (size ∷ sizes) (joined (product sizes) ds rows) ≡ length ds + sum_by (cells_of sizes) rows
cells-joined size sizes [] [] same small ascending below filled = cells_of-none (size ∷ sizes)
cells-joined size sizes [] (r ∷ rows) same small ascending below filled = absurd (omega arith)
cells-joined size sizes (d ∷ ds) [] same small ascending below filled = absurd (omega arith)
cells-joined size sizes (d ∷ ds) (r ∷ rows) same small ascending below filled =
    let none = after_digit-none (product sizes) d ds rows below.1 (λ k z within is. let less = ascending 0 (suc k) z (omega arith) (omega arith) in omega (arith, less, is)) in
    let more = cells-digit size sizes d r (joined (product sizes) ds rows) (small 0 d (omega arith)) below.0 filled.0 none in
    let rest = cells-joined size sizes ds rows (omega arith) (λ k z within. small (suc k) z (omega arith)) (λ i j z before within. ascending (suc i) (suc j) z (omega arith) (omega arith)) below.1 filled.1 in
    omega (arith, more, rest, sum_by-cons (cells_of sizes) r rows)

-- and so for all rows
cells-rows : (size : ℕ) (sizes : List ℕ) (xs : List (List ℕ)) (rows : List (List Transition)) → sum_by length xs ≡ length rows → AllByRecursion (AreDigitsBelow size) xs → AllByRecursion (AreBelow (product sizes)) rows → AllByRecursion HasTransition rows
    → sum_by (cells_of (size ∷ sizes)) (joined_rows (product sizes) xs rows) ≡ sum_by length xs + sum_by (cells_of sizes) rows
cells-rows size sizes [] [] same are below filled = refl
cells-rows size sizes [] (r ∷ rows) same are below filled = absurd (omega arith)
cells-rows size sizes (x ∷ xs) rows same are below filled =
    let total = sum_by-cons length x xs in
    let here = cells-joined size sizes x (take (length x) rows) (omega (arith, total, length-take (length x) rows)) are.0.below are.0.ascending
    (all_take (AreBelow (product sizes)) (length x) rows below) (all_take HasTransition (length x) rows filled) in
    let rest = cells-rows size sizes xs (drop (length x) rows) (omega (arith, total, length-drop (length x) rows)) are.1
    (all_drop (AreBelow (product sizes)) (length x) rows below) (all_drop HasTransition (length x) rows filled) in
    omega (
      arith,
      here,
      rest,
      total,
      sum_by-cons (cells_of (size ∷ sizes)) (joined (product sizes) x (take (length x) rows)) (joined_rows (product sizes) xs (drop (length x) rows)),
      sum_by-take-drop (cells_of sizes) rows (length x),
    )

-- on no track nothing is decided
pub cells-no_track : (rows : List (List Transition)) → sum_by (cells_of []) rows ≡ 0
cells-no_track [] = refl
cells-no_track (r ∷ rows) = omega (arith, cells-no_track rows, sum_by-cons (cells_of []) r rows)

-- the digits that are kept are the cells of the rows
pub cells-kept : (d : Decisions) → IsSound d → cells_in d ≡ sum_by (cells_of (sizes_in d)) (rows_in d)
cells-kept (Targets targets) sound = sym (cells-no_track (map only_transition targets.items))
cells-kept (OnTrack' track p below) sound =
    let rest = cells-kept below sound.1 in
    let all = cells-rows track.size (sizes_in below) track.digits (rows_in below) sound.0.count sound.0.digits (letters-below below sound.1) sound.0.filled in
    subst (λ w. sum_by length track.digits + cells_in below ≡ sum_by (cells_of (track.size ∷ sizes_in below)) (joined_rows w track.digits (rows_in below))) (sym sound.0.weight)
    (omega (arith, rest, all))

-- where there is no letter there is no cell
cells-no_letter : (sizes : List ℕ) (rows : List (List Transition)) → AllByRecursion (AreBelow 0) rows → sum_by (cells_of sizes) rows ≡ 0
cells-no_letter sizes [] below = refl
cells-no_letter sizes ([] ∷ rows) below = omega (arith, cells_of-none sizes, cells-no_letter sizes rows below.1, sum_by-cons (cells_of sizes) [] rows)
cells-no_letter sizes ((e ∷ row) ∷ rows) below = absurd (omega (arith, below.0.0))

-- the digits that are kept are the cells by all tracks, unless whole letters of several tracks decide
pub cells-tracks : (sizes : List ℕ) (d : Decisions) → IsSound d → DecideRows sizes (sizes_in d) → 0 < length sizes → ¬ ((1 < length sizes) × (0 < product sizes) × (length (sizes_in d) ≡ 1))
    → cells_in d ≡ sum_by (cells_of sizes) (rows_in d)
cells-tracks sizes d sound decide some parted = by decide
  where
    kept : cells_in d ≡ sum_by (cells_of (sizes_in d)) (rows_in d)
    kept = cells-kept d sound

    none : product sizes ≡ 0 → cells_in d ≡ sum_by (cells_of sizes) (rows_in d)
    none letters =
        let below : AllByRecursion (AreBelow 0) (rows_in d) = subst (λ n. AllByRecursion (AreBelow n) (rows_in d)) (decide-product sizes (sizes_in d) decide ∙ letters) (letters-below d sound) in
        kept ∙ cells-no_letter (sizes_in d) (rows_in d) below ∙ sym (cells-no_letter sizes (rows_in d) below)

    one : (ss : List ℕ) → length ss ≡ 1 → product ss ∷ [] ≡ ss
    one [] length_is = absurd (omega (arith, length_is))
    one (s ∷ []) length_is = let letters : product (s ∷ []) ≡ s = omega arith in ap (λ n. n ∷ []) letters
    one (s ∷ (t ∷ ss)) length_is = absurd (omega (arith, length_is))

    same : sizes_in d ≡ sizes → cells_in d ≡ sum_by (cells_of sizes) (rows_in d)
    same tracks = kept ∙ ap (λ ss. sum_by (cells_of ss) (rows_in d)) tracks

    by : DecideRows sizes (sizes_in d) → cells_in d ≡ sum_by (cells_of sizes) (rows_in d)
    by (inl tracks) = same tracks.0
    by (inr whole) = few (cases_lt 1 (length sizes)) (cases_lt 0 (product sizes))
      where
        few : (1 < length sizes) ⊎ (length sizes ≤ 1) → (0 < product sizes) ⊎ (product sizes ≤ 0) → cells_in d ≡ sum_by (cells_of sizes) (rows_in d)
        few (inr short) letters = same (whole ∙ one sizes (omega (arith, short, some)))
        few (inl long) (inr letters) = none (omega (arith, letters))
        few (inl long) (inl letters) = absurd (parted (long, letters, ap length whole))

-- where there is no track there is no cell
pub cells-trackless : (sizes : List ℕ) (rows : List (List Transition)) → length sizes ≡ 0 → sum_by (cells_of sizes) rows ≡ 0
cells-trackless [] rows none = cells-no_track rows
cells-trackless (size ∷ sizes) rows none = absurd (omega arith)
