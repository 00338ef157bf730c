-- What rows that are kept as decisions say: their letters are in range, and on one track they are its digits.
use Rattle.std.proofs.Common.{◌≡◌, ◌≢◌, ℕ, suc, zero, ◌+◌, ◌*◌, ◌<◌, ◌≤◌, ◌⊎◌, inl, inr, List, [], ◌∷◌, ◌++◌, map, take, drop, length, get_or, refl, sym, ap, ◌∙◌, subst, add-one, length-drop, Box, Global, arith}
use Rattle.std.specs.List.{sum_by, All, AllPairs, AllByRecursion}
use Rattle.std.proofs.lemmas.Bool.{cases_lt, cases_order}
use Rattle.std.proofs.lemmas.Nat.{mul-le}
use Rattle.std.proofs.lemmas.List.{drop-map, get_or_default, get_or-drop, map-append}
use Rattle.std.proofs.lemmas.List.Sums.{sum_by-cons}
use Rattle.digit_tuple.specs.Letters.{product}
use Rattle.digit_tuple.specs.Decisions.{only_transition, after_digit, joined, joined_rows, rows_in, sizes_in, letters_in, AreDigitsBelow, HasTransition, IsTrack, IsSound}
use Rattle.digit_tuple.specs.declared.transitions.Transition.{Transition}
use Rattle.digit_tuple.specs.declared.decisions.Track.{Track}
use Rattle.digit_tuple.specs.declared.decisions.Decisions.{Decisions}
use Rattle.digit_tuple.specs.declared.decisions.Decisions.TheVariants.{Targets, OnTrack'}
use Rattle.digit_tuple.proofs.JoinedRows.{length-joined_rows}
use Rattle.digit_tuple.proofs.JoinedReads.{AreBelow, AreBelow-rows, places_within, joined_rows-at, joined_more, map-after_digit, all_at, all_drop, joined-take}

only_transitions-below : (targets : List ℕ) → AllByRecursion (AreBelow 1) (map only_transition targets)
only_transitions-below [] = tt
only_transitions-below (t ∷ ts) = ((omega arith, tt), only_transitions-below ts)

small-digits : (size : ℕ) (xs : List (List ℕ)) → AllByRecursion (AreDigitsBelow size) xs → AllByRecursion (All (λ d. d < size)) xs
small-digits size [] are = tt
small-digits size (x ∷ xs) are = (are.0.below, small-digits size xs are.1)

-- the letters of the rows are letters of the tracks
pub letters-below : (d : Decisions) → IsSound d → AllByRecursion (AreBelow (product (sizes_in d))) (rows_in d)
letters-below (Targets targets) sound = only_transitions-below targets.items
letters-below (OnTrack' track p below) sound =
    let rest = letters-below below sound.1 in
    subst (λ w. AllByRecursion (AreBelow (track.size * product (sizes_in below))) (joined_rows w track.digits (rows_in below))) (sym sound.0.weight)
    (AreBelow-rows track.size (product (sizes_in below)) track.digits (rows_in below) (small-digits track.size track.digits sound.0.digits) rest)

-- the digits of a row
abbrev pub digits_at : Track → ℕ → List ℕ
digits_at track place = get_or track.digits place []

-- how many rows come before those after the digits of a row
abbrev pub start_at : Track → ℕ → ℕ
start_at track place = sum_by length (take place track.digits)

-- there is such a row: it joins rows that follow the start, one for each of its digits, which are of the track
pub record IsRow (track : Track) (rows : List (List Transition)) (place : ℕ) : Type 0 where
  pub within : place < length track.digits
  pub row : get_or (joined_rows track.weight track.digits rows) place [] ≡ joined track.weight (digits_at track place) (drop (start_at track place) rows)
  pub fits : start_at track place + length (digits_at track place) ≤ length rows
  pub room : length (digits_at track place) ≤ length (drop (start_at track place) rows)
  pub digits : AreDigitsBelow track.size (digits_at track place)

pub IsRow-track : (track : Track) (letters : ℕ) (rows : List (List Transition)) (place : ℕ) → IsTrack track letters rows → place < length track.digits → IsRow track rows place
IsRow-track track letters rows place is within =
    let fits : start_at track place + length (digits_at track place) ≤ length rows = omega (arith, places_within track.digits place within, is.count) in
    record {
      within = within;
      row = joined_rows-at track.weight track.digits rows place within;
      fits = fits;
      room = omega (arith, fits, length-drop (start_at track place) rows);
      digits = all_at (AreDigitsBelow track.size) track.digits place [] is.digits within;
    }

-- what sound decisions say of a row where there is a track
pub record IsRowOn (track : Track) (below : Decisions) (place : ℕ) : Type 0 where
  pub track_is : IsTrack track (product (sizes_in below)) (rows_in below)
  pub below_is : IsSound below
  pub at : IsRow track (rows_in below) place

pub IsRowOn-sound : (d : Decisions) (track : Track) (p : Box (Unit {0}) Global) (below : Decisions) (place : ℕ) → d ≡ OnTrack' track p below → IsSound d → place < length (rows_in d) → IsRowOn track below place
IsRowOn-sound d track p below place is sound within =
    let both : IsTrack track (product (sizes_in below)) (rows_in below) × IsSound below = subst IsSound is sound in
    let inside : place < length track.digits = omega (arith, subst (λ (d : Decisions). place < length (rows_in d)) is within, length-joined_rows track.weight track.digits (rows_in below)) in
    record { track_is = both.0; below_is = both.1; at = IsRow-track track (product (sizes_in below)) (rows_in below) place both.0 inside }

pub sum-only_transitions : (targets : List ℕ) → sum_by length (map only_transition targets) ≡ length targets
sum-only_transitions [] = refl
sum-only_transitions (t ∷ ts) = omega (arith, sum-only_transitions ts, sum_by-cons length (only_transition t) (map only_transition ts))

-- a row on no track
pub only_transition-at : (targets : List ℕ) (q z : ℕ) → q < length targets → get_or (map only_transition targets) q [] ≡ only_transition (get_or targets q z)
only_transition-at [] q z within = absurd (omega arith)
only_transition-at (t ∷ ts) zero z within = refl
only_transition-at (t ∷ ts) (suc q) z within = only_transition-at ts q z (omega arith)

pub length-only_transitions : (targets : List ℕ) → length (map only_transition targets) ≡ length targets
length-only_transitions [] = refl
length-only_transitions (t ∷ ts) = ap suc (length-only_transitions ts)

-- digits as a list and as a number of them
pub empty-digits : (ds : List ℕ) → length ds ≡ 0 → ds ≡ []
empty-digits [] none = refl
empty-digits (d ∷ ds) none = absurd (omega arith)

-- a row that has a transition has a letter
pub positive_weight : (w : ℕ) (rows : List (List Transition)) (k : ℕ) → k < length rows → AllByRecursion (AreBelow w) rows → AllByRecursion HasTransition rows → 0 < w
positive_weight w [] k within below filled = absurd (omega arith)
positive_weight w ([] ∷ rows) k within below filled = absurd (omega (arith, filled.0))
positive_weight w ((e ∷ row) ∷ rows) k within below filled = omega (arith, below.0.0)

-- ascending numbers rise
pub rising : (ns : List ℕ) → AllPairs (λ d e. d < e) ns → (i j : ℕ) → i ≤ j → j < length ns → get_or ns i 0 ≤ get_or ns j 0
rising ns ascending i j order within = by (cases_order i j)
  where
    by : (i ≡ j) ⊎ ((i < j) ⊎ (j < i)) → get_or ns i 0 ≤ get_or ns j 0
    by (inl same) = omega (arith, ap (λ n. get_or ns n 0) same)
    by (inr (inl less)) = omega (arith, ascending i j 0 less within)
    by (inr (inr more)) = absurd (omega arith)

-- a number that all are below or above is none of them
pub not_found : (ns : List ℕ) (n at : ℕ) → ((k : ℕ) → k < at → get_or ns k 0 < n) → ((k : ℕ) → at ≤ k → k < length ns → n < get_or ns k 0) → All (λ d. d ≢ n) ns
not_found ns n at before after k z within same = by (cases_lt k at)
  where
    read : get_or ns k 0 ≡ n
    read = get_or_default ns k 0 z within ∙ same

    by : (k < at) ⊎ (at ≤ k) → ⊥
    by (inl less) = omega (arith, read, before k less)
    by (inr more) = omega (arith, read, after k more within)

-- the rows after its digits have letters of the later tracks, and have transitions
pub letters-after_digit : (track : Track) (below : Decisions) (place : ℕ) → IsRowOn track below place → AllByRecursion (AreBelow track.weight) (drop (start_at track place) (rows_in below))
letters-after_digit track below place on =
    subst (λ w. AllByRecursion (AreBelow w) (drop (start_at track place) (rows_in below))) (sym on.track_is.weight)
    (all_drop (AreBelow (product (sizes_in below))) (start_at track place) (rows_in below) (letters-below below on.below_is))

pub filled-after_digit : (track : Track) (below : Decisions) (place : ℕ) → IsRowOn track below place → AllByRecursion HasTransition (drop (start_at track place) (rows_in below))
filled-after_digit track below place on = all_drop HasTransition (start_at track place) (rows_in below) on.track_is.filled

-- the transitions after one digit more
pub joined-next : (base w : ℕ) (ds : List ℕ) (rows : List (List Transition)) (start k : ℕ) → k < length ds → start + k < length rows
    → map (after_digit base) (joined w (take (k + 1) ds) (drop start rows)) ≡ map (after_digit base) (joined w (take k ds) (drop start rows)) ++ map (after_digit (base + get_or ds k 0 * w)) (get_or rows (start + k) [])
joined-next base w ds rows start k within there =
    ap (λ n. map (after_digit base) (joined w (take n ds) (drop start rows))) (add-one k)
    ∙ ap (map (after_digit base)) (joined_more w ds (drop start rows) k 0 within (omega (arith, there, length-drop start rows)))
    ∙ map-append (after_digit base) (joined w (take k ds) (drop start rows)) (map (after_digit (get_or ds k 0 * w)) (get_or (drop start rows) k []))
    ∙ ap (λ (es : List Transition). map (after_digit base) (joined w (take k ds) (drop start rows)) ++ es) (map-after_digit base (get_or ds k 0 * w) (get_or (drop start rows) k []))
    ∙ ap (λ (es : List Transition). map (after_digit base) (joined w (take k ds) (drop start rows)) ++ map (after_digit (base + get_or ds k 0 * w)) es) (get_or-drop start rows k [])

-- the letters after a digit are in range
pub after_digit-fits : (base size w letters digit : ℕ) → w ≡ letters → digit < size → base + size * letters < 4294967296 → base + digit * w + letters < 4294967296
after_digit-fits base size w letters digit same less whole =
    let more = mul-le (suc digit) w size w (omega (arith, less)) (omega arith) in
    let scaled : size * letters ≡ size * w = ap (λ n. size * n) (sym same) in
    omega (arith, more, whole, scaled, same)

-- on one track the letters of a row are its digits
letters-joined : (ds targets : List ℕ) → length ds ≤ length targets → letters_in (joined 1 ds (map only_transition targets)) ≡ ds
letters-joined [] targets fits = refl
letters-joined (d ∷ ds) [] fits = absurd (omega arith)
letters-joined (d ∷ ds) (t ∷ targets) fits = let same : d * 1 + 0 ≡ d = omega arith in ap (λ n. n ∷ letters_in (joined 1 ds (map only_transition targets))) same ∙ ap (λ ns. d ∷ ns) (letters-joined ds targets (omega arith))

pub letters-one_track : (xs : List (List ℕ)) (targets : List ℕ) → sum_by length xs ≡ length targets → map letters_in (joined_rows 1 xs (map only_transition targets)) ≡ xs
letters-one_track [] targets same = refl
letters-one_track (x ∷ xs) targets same =
    let total = sum_by-cons length x xs in
    ap (λ (es : List Transition). letters_in es ∷ map letters_in (joined_rows 1 xs (drop (length x) (map only_transition targets)))) (joined-take 1 x (map only_transition targets))
    ∙ ap (λ (ns : List ℕ). ns ∷ map letters_in (joined_rows 1 xs (drop (length x) (map only_transition targets)))) (letters-joined x targets (omega (arith, total, same)))
    ∙ ap (λ (rows : List (List Transition)). x ∷ map letters_in (joined_rows 1 xs rows)) (drop-map only_transition (length x) targets)
    ∙ ap (λ (ns : List (List ℕ)). x ∷ ns) (letters-one_track xs (drop (length x) targets) (omega (arith, total, same, length-drop (length x) targets)))

-- the letters before a digit of a sound row, and those that it counts, are in range
pub digit_fits : (d : Decisions) (track : Track) (p : Box (Unit {0}) Global) (below : Decisions) (base place count : ℕ) (digits : List ℕ) (digit : ℕ) → d ≡ OnTrack' track p below → IsSound d → place < length (rows_in d)
    → base + product (sizes_in d) < 4294967296 → digits ≡ digits_at track place → count < length digits → digit ≡ get_or digits count 0 → base + digit * track.weight < 4294967296
digit_fits d track p below base place count digits digit is sound within whole same less read =
    let on = IsRowOn-sound d track p below place is sound within in
    let all : base + track.size * product (sizes_in below) < 4294967296 = subst (λ (d : Decisions). base + product (sizes_in d) < 4294967296) is whole in
    let small : digit < track.size = subst (λ n. n < track.size) (sym read) (subst (λ (ns : List ℕ). get_or ns count 0 < track.size) (sym same) (on.at.digits.below count 0 (omega (arith, less, ap length same)))) in
    omega (arith, after_digit-fits base track.size track.weight (product (sizes_in below)) digit on.track_is.weight small all)
