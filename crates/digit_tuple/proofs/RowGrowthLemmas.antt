-- Rows that grow by runs of transitions, each run after one digit.
use Rattle.std.proofs.Common.{◌≡◌, ℕ, zero, suc, ◌+◌, ◌-◌, ◌*◌, ◌/◌, ◌<◌, ◌≤◌, ◌⊎◌, inl, inr, List, [], ◌∷◌, ◌++◌, map, take, drop, length, get_or, Some, refl, sym, ap, ◌∙◌, subst, length-drop, length-take, arith}
use Rattle.std.specs.List.{All, AllPairs, AllByRecursion}
use Rattle.std.proofs.lemmas.Bool.{cases_lt}
use Rattle.std.proofs.lemmas.Nat.{mul-le, div-add-mod', mod_below, div_below}
use Rattle.std.proofs.lemmas.List.{drop_more, get_or-drop, get_or_default, map-append, take_all}
use Rattle.std.proofs.lemmas.Grind.{get_or_after_one}
use Rattle.std.proofs.lemmas.List.Elements.{recursion_from_All, All-take}
use Rattle.std.proofs.Math.Seq.{take-add}
use Rattle.digit_tuple.specs.Deterministic.{IsByEarlier}
use Rattle.digit_tuple.specs.NumberLists.{extended, last_of, last_number}
use Rattle.digit_tuple.specs.Reversed.{transition_to}
use Rattle.digit_tuple.specs.Decisions.{ahead, after_digit, joined_rows, only_transition, HasTransition, IsFrom, IsTrack}
use Rattle.digit_tuple.specs.declared.transitions.Transition.{Transition}
use Rattle.digit_tuple.specs.declared.decisions.Track.{Track}
use Rattle.digit_tuple.proofs.JoinedRows.{joined_rows-begin, joined_rows-extended, extended-push, length-extended, last_of-push, last_number-extended}
use Rattle.digit_tuple.proofs.JoinedReads.{drop-drop}
use Rattle.digit_tuple.proofs.LetterLemmas.{positive_right}
use Rattle.digit_tuple.proofs.SparseRowLemmas.{get_or-taken}
use Rattle.digit_tuple.proofs.DecisionLemmas.{IsTrack-begin, IsTrack-more}

-- a track and the rows after it have become others by a row that takes transitions of a list: those before a place, and those from there on
-- are after higher digits
pub record IsGrown (base : ℕ) (transitions : List Transition) (track : Track) (rows : List (List Transition)) (place : ℕ) (letters : ℕ) (grown : Track) (grown_rows : List (List Transition)) : Type 0 where
  pub track_is : IsTrack grown letters grown_rows
  pub size : grown.size ≡ track.size
  pub weight : grown.weight ≡ track.weight
  pub some : 0 < length grown.digits
  pub joined : joined_rows track.weight grown.digits grown_rows ≡ joined_rows track.weight track.digits rows ++ map (ahead base) (take place transitions) ∷ []
  pub above : (l : ℕ) → last_number (last_of grown.digits []) ≡ Some l → All (λ e. base + (l + 1) * track.weight ≤ e.letter) (drop place transitions)

-- at first the row is empty
pub IsGrown-begin : (base : ℕ) (transitions : List Transition) (track : Track) (rows : List (List Transition)) (letters : ℕ) (digits : List (List ℕ)) → IsTrack track letters rows → digits ≡ track.digits ++ [] ∷ []
    → IsGrown base transitions track rows 0 letters (record { size = track.size; weight = track.weight; digits = digits }) rows
IsGrown-begin base transitions track rows letters digits is begun =
    subst (λ ds. IsGrown base transitions track rows 0 letters (record { size = track.size; weight = track.weight; digits = ds }) rows) (sym begun) (record {
      track_is = IsTrack-begin track letters rows is;
      size = refl;
      weight = refl;
      some = omega (arith, ap length (joined_rows-begin 0 track.digits []), long track.digits);
      joined = joined_rows-begin track.weight track.digits rows;
      above = λ l last. absurd (let empty = last_of-push track.digits [] [] in let none : ⊥ = cc in none);
    })
  where
    long : (xs : List (List ℕ)) → 0 < length (xs ++ [] ∷ [])
    long [] = omega arith
    long (x ∷ xs) = omega arith

-- a transition of a run after its digit is what it was
run-after_digit : (base low k : ℕ) (row : List Transition) → low ≡ base + k → All (λ e. low ≤ e.letter) row → map (after_digit k) (map (ahead low) row) ≡ map (ahead base) row
run-after_digit base low k row is from = by row (recursion_from_All (λ e. low ≤ e.letter) row from)
  where
    by : (es : List Transition) → AllByRecursion (λ e. low ≤ e.letter) es → map (after_digit k) (map (ahead low) es) ≡ map (ahead base) es
    by [] all = refl
    by (e ∷ es) all =
        let same : k + (e.letter - low) ≡ e.letter - base = omega (arith, is, all.0) in
        ap (λ n. record { letter = n; target = e.target } ∷ map (after_digit k) (map (ahead low) es)) same ∙ ap (λ (es : List Transition). record { letter = e.letter - base; target = e.target } ∷ es) (by es all.1)

-- the digit of a letter, and where the letters with this digit begin
pub record IsDigit (base : ℕ) (track : Track) (letter digit : ℕ) : Type 0 where
  pub small : digit < track.size
  pub from : base + digit * track.weight ≤ letter
  pub before : letter < base + (digit + 1) * track.weight
  pub within : (digit + 1) * track.weight ≤ track.size * track.weight

pub IsDigit-of : (base : ℕ) (track : Track) (letter digit : ℕ) → IsFrom base (track.size * track.weight) (record { letter = letter; target = 0 }) → digit ≡ (letter - base) / track.weight → IsDigit base track letter digit
IsDigit-of base track letter digit from is =
    let less : letter - base < track.size * track.weight = omega (arith, from.0, from.1) in
    let positive = positive_right track.size track.weight (omega (arith, less)) in
    let small = div_below (letter - base) track.weight track.size positive less in
    let whole = div-add-mod' (letter - base) track.weight in
    let rest = mod_below (letter - base) track.weight positive in
    let scaled : digit * track.weight ≡ (letter - base) / track.weight * track.weight = ap (λ n. n * track.weight) is in
    record {
      small = omega (arith, is, small);
      from = omega (arith, from.0, whole, scaled);
      before = omega (arith, from.0, whole, rest, scaled);
      within = mul-le (digit + 1) track.weight track.size track.weight (omega (arith, is, small)) (omega arith);
    }

-- the run of transitions from a place on that a digit has, up to another: their letters, and those of the later transitions
pub record IsRun (base : ℕ) (transitions : List Transition) (track : Track) (place count digit low : ℕ) : Type 0 where
  pub low_is : low ≡ base + digit * track.weight
  pub small : digit < track.size
  pub fits : low + track.weight ≤ base + track.size * track.weight
  pub some : HasTransition (take count (drop place transitions))
  pub first : (l : ℕ) → All (λ e. base + (l + 1) * track.weight ≤ e.letter) (drop place transitions) → l < digit
  pub from : All (λ e. low ≤ e.letter) (take count (drop place transitions))
  pub later : All (λ e. low + track.weight ≤ e.letter) (drop count (drop place transitions))

length-mapped : (low : ℕ) (row : List Transition) → length (map (ahead low) row) ≡ length row
length-mapped low [] = refl
length-mapped low (e ∷ row) = ap suc (length-mapped low row)

-- a run more
pub IsGrown-more : (base : ℕ) (transitions : List Transition) (track : Track) (rows : List (List Transition)) (place letters : ℕ) (grown : Track) (grown_rows : List (List Transition)) (count digit low : ℕ) (digits : List (List ℕ)) (more_rows : List (List Transition))
    → IsGrown base transitions track rows place letters grown grown_rows → IsRun base transitions track place count digit low
    → digits ≡ extended grown.digits (digit ∷ []) → more_rows ≡ grown_rows ++ map (ahead low) (take count (drop place transitions)) ∷ []
    → IsGrown base transitions track rows (place + count) letters (record { size = grown.size; weight = grown.weight; digits = digits }) more_rows
IsGrown-more base transitions track rows place letters grown grown_rows count digit low digits more_rows is run more_digits more =
    subst (λ ds. IsGrown base transitions track rows (place + count) letters (record { size = grown.size; weight = grown.weight; digits = ds }) more_rows) (sym more_digits)
    (subst (λ rs. IsGrown base transitions track rows (place + count) letters (record { size = grown.size; weight = grown.weight; digits = extended grown.digits (digit ∷ []) }) rs) (sym more) (record {
      track_is = IsTrack-more grown letters digit grown_rows (map (ahead low) transitions_of_run) is.track_is (omega (arith, run.small, is.size)) is.some (omega (arith, length-mapped low transitions_of_run, run.some)) (λ l last. run.first l (is.above l last));
      size = is.size;
      weight = is.weight;
      some = omega (arith, is.some, length-extended grown.digits (digit ∷ []));
      joined =
          joined_rows-extended track.weight grown.digits grown_rows digit (map (ahead low) transitions_of_run) is.some is.track_is.count
          ∙ ap (λ rs. extended rs (map (after_digit (digit * track.weight)) (map (ahead low) transitions_of_run))) is.joined
          ∙ extended-push (joined_rows track.weight track.digits rows) (map (ahead base) (take place transitions)) (map (after_digit (digit * track.weight)) (map (ahead low) transitions_of_run))
          ∙ ap (λ es. joined_rows track.weight track.digits rows ++ (map (ahead base) (take place transitions) ++ es) ∷ []) (run-after_digit base low (digit * track.weight) transitions_of_run run.low_is run.from)
          ∙ ap (λ es. joined_rows track.weight track.digits rows ++ es ∷ []) (sym (map-append (ahead base) (take place transitions) transitions_of_run))
          ∙ ap (λ es. joined_rows track.weight track.digits rows ++ map (ahead base) es ∷ []) (sym (take-add place count transitions));
      above = λ l last.
          let same : digit ≡ l = (let it = last_number-extended grown.digits digit is.some in cc) in
          subst (All (λ e. base + (l + 1) * track.weight ≤ e.letter)) (drop-drop place count transitions) (λ i z within. omega (arith, run.later i z within, run.low_is, ap (λ n. (n + 1) * track.weight) same));
    }))
  where
    transitions_of_run : List Transition
    transitions_of_run = take count (drop place transitions)

-- the letter at a place is the first of those from there on
first-letter : (transitions : List Transition) (place : ℕ) (z : Transition) → (get_or (drop place transitions) 0 z).letter ≡ (get_or transitions place z).letter
first-letter transitions place z = let here : place + 0 ≡ place = omega arith in ap (λ (e : Transition). e.letter) (get_or-drop place transitions 0 z) ∙ ap (λ n. (get_or transitions n z).letter) here

-- those from a place on are no lower
pub from_place : (transitions : List Transition) (place low : ℕ) (z : Transition) → AllPairs IsByEarlier transitions → low ≤ (get_or transitions place z).letter → place < length transitions → All (λ e. low ≤ e.letter) (drop place transitions)
from_place transitions place low z ascending least within zero d inside = omega (arith, first-letter transitions place d, ap (λ (e : Transition). e.letter) (get_or_default transitions place d z within), least)
from_place transitions place low z ascending least within (suc k) d inside =
    let there : place + suc k < length transitions = omega (arith, inside, length-drop place transitions) in
    let later = ascending place (place + suc k) d (omega arith) there in
    omega (arith, later, ap (λ (e : Transition). e.letter) (get_or-drop place transitions (suc k) d), ap (λ (e : Transition). e.letter) (get_or_default transitions place d z within), least)

pub ascending-drop : (transitions : List Transition) (place : ℕ) → AllPairs IsByEarlier transitions → AllPairs IsByEarlier (drop place transitions)
ascending-drop transitions place ascending i j d before within =
    let there : place + j < length transitions = omega (arith, within, length-drop place transitions) in
    let less = ascending (place + i) (place + j) d (omega (arith, before)) there in
    omega (arith, less, ap (λ (e : Transition). e.letter) (get_or-drop place transitions i d), ap (λ (e : Transition). e.letter) (get_or-drop place transitions j d))

pub ascending-take : (transitions : List Transition) (count : ℕ) → count ≤ length transitions → AllPairs IsByEarlier transitions → AllPairs IsByEarlier (take count transitions)
ascending-take transitions count fits ascending i j d before within =
    let short : j < count = omega (arith, within, length-take count transitions) in
    let less = ascending i j d before (omega (arith, short, fits)) in
    omega (arith, less, ap (λ (e : Transition). e.letter) (get_or-taken transitions count i d (omega (arith, before, short)) fits), ap (λ (e : Transition). e.letter) (get_or-taken transitions count j d short fits))

-- the run of the first transitions that are below the letters of the next digit
pub IsRun-found : (base : ℕ) (transitions : List Transition) (track : Track) (place count digit low : ℕ) (z : Transition) → place < length transitions → AllPairs IsByEarlier transitions
    → IsDigit base track (get_or transitions place z).letter digit → low ≡ base + digit * track.weight
    → All (λ e. low + track.weight ≤ e.letter) (drop count (drop place transitions))
    → IsRun base transitions track place count digit low
IsRun-found base transitions track place count digit low z within ascending is low_is later = record {
  low_is = low_is;
  small = is.small;
  fits = omega (arith, is.within, low_is);
  some = nonempty count later;
  first = λ l all. below l all (cases_lt l digit);
  from = All-take (λ e. low ≤ e.letter) count (drop place transitions) (from_place transitions place low z ascending (omega (arith, is.from, low_is)) within);
  later = later;
}
  where
    some : 0 < length (drop place transitions)
    some = omega (arith, within, length-drop place transitions)

    nonempty : (n : ℕ) → All (λ e. low + track.weight ≤ e.letter) (drop n (drop place transitions)) → 0 < length (take n (drop place transitions))
    nonempty zero all = let high = all 0 z some in absurd (omega (arith, high, first-letter transitions place z, is.before, low_is))
    nonempty (suc n) all = omega (arith, length-take (suc n) (drop place transitions), some)

    below : (l : ℕ) → All (λ e. base + (l + 1) * track.weight ≤ e.letter) (drop place transitions) → (l < digit) ⊎ (digit ≤ l) → l < digit
    below l all (inl less) = less
    below l all (inr more) =
        let scaled = mul-le (digit + 1) track.weight (l + 1) track.weight (omega (arith, more)) (omega arith) in
        let high = all 0 z some in
        absurd (omega (arith, high, first-letter transitions place z, is.before, scaled))

-- the transitions from a place on, as a slice
pub rest-is : (transitions : List Transition) (place : ℕ) → take (length transitions - place) (drop place transitions) ≡ drop place transitions
rest-is transitions place = take_all (length transitions - place) (drop place transitions) (omega (arith, length-drop place transitions))

-- the run that is found by a division, and by a search among the transitions from a place on
pub IsRun-next : (base : ℕ) (transitions : List Transition) (track grown : Track) (place count digit low : ℕ) (z : Transition) → place < length transitions → AllPairs IsByEarlier transitions → All (IsFrom base (track.size * track.weight)) transitions → grown.weight ≡ track.weight
    → digit ≡ ((get_or (take (length transitions - place) (drop place transitions)) 0 z).letter - base) / grown.weight → low ≡ base + digit * grown.weight
    → All (λ e. low + grown.weight ≤ e.letter) (drop count (take (length transitions - place) (drop place transitions)))
    → IsRun base transitions track place count digit low
IsRun-next base transitions track grown place count digit low z within ascending from weight digit_is low_is later =
    let first : (get_or (take (length transitions - place) (drop place transitions)) 0 z).letter ≡ (get_or transitions place z).letter = ap (λ es. (get_or es 0 z).letter) (rest-is transitions place) ∙ first-letter transitions place z in
    IsRun-found base transitions track place count digit low z within ascending
    (IsDigit-of base track (get_or transitions place z).letter digit (from place z within) (digit_is ∙ ap (λ n. (n - base) / grown.weight) first ∙ ap (λ n. ((get_or transitions place z).letter - base) / n) weight))
    (low_is ∙ ap (λ n. base + digit * n) weight)
    (subst (λ n. All (λ e. low + n ≤ e.letter) (drop count (drop place transitions))) weight (subst (λ es. All (λ e. low + grown.weight ≤ e.letter) (drop count es)) (rest-is transitions place) later))

-- where no track is later, each transition is a run
pub IsRun-one : (base : ℕ) (transitions : List Transition) (track : Track) (place : ℕ) (z : Transition) → track.weight ≡ 1 → place < length transitions → AllPairs IsByEarlier transitions → All (IsFrom base track.size) transitions
    → IsRun base transitions track place 1 ((get_or transitions place z).letter - base) (get_or transitions place z).letter
IsRun-one base transitions track place z weight within ascending from =
    let here = from place z within in
    let letter : ℕ = (get_or transitions place z).letter in
    let low : letter ≡ base + (letter - base) * track.weight = omega (arith, here.0, ap (λ n. (letter - base) * n) weight) in
    let more : (letter - base + 1) * track.weight ≡ letter - base + 1 = omega (arith, ap (λ n. (letter - base + 1) * n) weight) in
    IsRun-found base transitions track place 1 (letter - base) letter z within ascending
    (record { small = omega (arith, here.0, here.1); from = omega (arith, low); before = omega (arith, here.0, more); within = omega (arith, more, here.0, here.1, ap (λ n. track.size * n) weight) })
    low
    (λ k d inside.
    let there : place + suc k < length transitions = omega (arith, inside, length-drop 1 (drop place transitions), length-drop place transitions) in
    let later = ascending place (place + suc k) d (omega arith) there in
    let next : place + (1 + k) ≡ place + suc k = omega arith in
    let same : (get_or (drop 1 (drop place transitions)) k d).letter ≡ (get_or transitions (place + suc k) d).letter = ap (λ (e : Transition). e.letter) (get_or_after_one (drop place transitions) k d ∙ get_or-drop place transitions (1 + k) d ∙ ap (λ n. get_or transitions n d) next) in
    omega (arith, later, weight, same, ap (λ (e : Transition). e.letter) (get_or_default transitions place d z within)))

-- the row of such a run
pub row-one : (transitions : List Transition) (place : ℕ) (z : Transition) → place < length transitions → map (ahead (get_or transitions place z).letter) (take 1 (drop place transitions)) ≡ only_transition (get_or transitions place z).target
row-one transitions place z within =
    let none : (get_or transitions place z).letter - (get_or transitions place z).letter ≡ 0 = omega arith in
    ap (λ es. map (ahead (get_or transitions place z).letter) (take 1 es)) (drop_more transitions place z within) ∙ ap (λ n. transition_to n (get_or transitions place z).target ∷ []) none

pub map-ahead_zero : (row : List Transition) → map (ahead 0) row ≡ row
map-ahead_zero [] = refl
map-ahead_zero (e ∷ row) = let same : e.letter - 0 ≡ e.letter = omega arith in ap (λ n. transition_to n e.target ∷ map (ahead 0) row) same ∙ ap (λ es. e ∷ es) (map-ahead_zero row)

-- the letters from the low one on, up to those of the next digit, are in range
pub low_fits : (base : ℕ) (transitions : List Transition) (track grown : Track) (place digit : ℕ) (z : Transition) → place < length transitions → All (IsFrom base (track.size * track.weight)) transitions → grown.weight ≡ track.weight
    → digit ≡ ((get_or (take (length transitions - place) (drop place transitions)) 0 z).letter - base) / grown.weight → base + track.size * track.weight ≤ 65536 → base + digit * grown.weight + grown.weight ≤ 65536
low_fits base transitions track grown place digit z within from weight digit_is narrow =
    let first : (get_or (take (length transitions - place) (drop place transitions)) 0 z).letter ≡ (get_or transitions place z).letter = ap (λ es. (get_or es 0 z).letter) (rest-is transitions place) ∙ first-letter transitions place z in
    let is = IsDigit-of base track (get_or transitions place z).letter digit (from place z within) (digit_is ∙ ap (λ n. (n - base) / grown.weight) first ∙ ap (λ n. ((get_or transitions place z).letter - base) / n) weight) in
    let scaled : digit * grown.weight ≡ digit * track.weight = ap (λ n. digit * n) weight in
    omega (arith, is.within, narrow, scaled, weight)
