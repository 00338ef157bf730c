-- Rows of transitions kept as decisions by tracks: on each track the digits that go on, and after each its row on the later tracks.
use Rattle.std.specs.Prelude.{◌≡◌, ℕ, ◌+◌, ◌-◌, ◌*◌, ◌<◌, ◌≤◌, List, [], ◌∷◌, ◌++◌, length, map, take, drop, sum_by, Some, ⊤}
use Rattle.std.specs.List.{All, AllPairs, AllByRecursion}
use Rattle.digit_tuple.specs.Letters.{product}
use Rattle.digit_tuple.specs.Deterministic.{target_by}
use Rattle.digit_tuple.specs.Reversed.{transition_to}
use Rattle.digit_tuple.specs.declared.transitions.Transition.{Transition}
use Rattle.digit_tuple.specs.declared.decisions.Track.{Track}
use Rattle.digit_tuple.specs.declared.decisions.Decisions.{Decisions}
use Rattle.digit_tuple.specs.declared.decisions.Decisions.TheVariants.{Targets, OnTrack'}

-- the transition with so much added to its letter
abbrev pub after_digit : ℕ → Transition → Transition
after_digit base transition = transition_to (base + transition.letter) transition.target

-- the transition with so much taken from its letter
abbrev pub ahead : ℕ → Transition → Transition
ahead base transition = transition_to (transition.letter - base) transition.target

-- the transition is by one of so many letters from the base on
abbrev pub IsFrom : ℕ → ℕ → Transition → Type 0
IsFrom base letters transition = (base ≤ transition.letter) × (transition.letter < base + letters)

-- the transitions after the digits of a track, in turn: each digit counts as so many letters, and has its row on the later tracks
abbrev pub joined : ℕ → List ℕ → List (List Transition) → List Transition
joined weight [] rows = []
joined weight (digit ∷ digits) [] = []
joined weight (digit ∷ digits) (row ∷ rows) = map (after_digit (digit * weight)) row ++ joined weight digits rows

-- the rows that have these digits on the track: the rows on the later tracks are given to their digits in turn
abbrev pub joined_rows : ℕ → List (List ℕ) → List (List Transition) → List (List Transition)
joined_rows weight [] rows = []
joined_rows weight (digits ∷ lists) rows = joined weight digits (take (length digits) rows) ∷ joined_rows weight lists (drop (length digits) rows)

-- the letters of the transitions
abbrev pub letters_in : List Transition → List ℕ
letters_in transitions = map (λ transition. transition.letter) transitions

-- the transition of a row on no track
abbrev pub only_transition : ℕ → List Transition
only_transition target = transition_to 0 target ∷ []

-- the rows
abbrev pub rows_in : Decisions → List (List Transition)
rows_in (Targets targets) = map only_transition targets.items
rows_in (OnTrack' track p below) = joined_rows track.weight track.digits (rows_in below)

-- how many digits each track has
abbrev pub sizes_in : Decisions → List ℕ
sizes_in (Targets targets) = []
sizes_in (OnTrack' track p below) = track.size ∷ sizes_in below

-- how many digits are kept on all tracks
abbrev pub cells_in : Decisions → ℕ
cells_in (Targets targets) = 0
cells_in (OnTrack' track p below) = sum_by length track.digits + cells_in below

-- the digits are below the size of their track and ascend
pub record AreDigitsBelow (size : ℕ) (digits : List ℕ) : Type 0 where
  pub below : All (λ digit. digit < size) digits
  pub ascending : AllPairs (λ d e. d < e) digits

abbrev pub HasTransition : List Transition → Type 0
HasTransition row = 0 < length row

-- a digit of the track counts as the letters of the later tracks, and has one of their rows, which has a transition
pub record IsTrack (track : Track) (letters : ℕ) (rows : List (List Transition)) : Type 0 where
  pub weight : track.weight ≡ letters
  pub count : sum_by length track.digits ≡ length rows
  pub digits : AllByRecursion (AreDigitsBelow track.size) track.digits
  pub filled : AllByRecursion HasTransition rows

abbrev pub IsSound : Decisions → Type 0
IsSound (Targets targets) = ⊤
IsSound (OnTrack' track p below) = IsTrack track (product (sizes_in below)) (rows_in below) × IsSound below

-- the row leads by the letter of the transition to where this leads
abbrev pub LeadsAs : List Transition → Transition → Type 0
LeadsAs row transition = target_by row transition.letter ≡ Some transition.target
