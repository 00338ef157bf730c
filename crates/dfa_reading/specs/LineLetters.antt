-- The letters by which a line leads.
use Rattle.std.specs.Prelude.{ℕ, ◌+◌, ◌*◌, nat_lt, if◌then◌else◌, List, [], ◌∷◌, map, Option, None, Some}
use Rattle.std.specs.List.{flat_map, range_with_len}
use Rattle.digit_tuple.specs.Letters.{product}
use Rattle.digit_tuple.specs.declared.transitions.Transition.{Transition}
use Rattle.dfa_reading.specs.Listed.{ListedLine}

-- the digits that one of a line takes on a track of a size: a digit outside the track takes none
abbrev pub digits_taken : ℕ → Option ℕ → List ℕ
digits_taken size None = range_with_len 0 size
digits_taken size (Some digit) = if nat_lt digit size then digit ∷ [] else []

-- each letter, so many further
abbrev pub shifted : ℕ → List ℕ → List ℕ
shifted by letters = map (λ letter. by + letter) letters

-- the letters of the tuples that digits take on tracks of these sizes
abbrev pub letters_taken : List ℕ → List (Option ℕ) → List ℕ
letters_taken [] [] = 0 ∷ []
letters_taken (size ∷ sizes) (wanted ∷ digits) = flat_map (λ digit. shifted (digit * product sizes) (letters_taken sizes digits)) (digits_taken size wanted)
letters_taken _ _ = []

abbrev pub transition_to : ℕ → ℕ → Transition
transition_to target letter = record { letter = letter; target = target }

-- a transition by each letter to each target
abbrev pub transitions_by : List ℕ → List ℕ → List Transition
transitions_by letters targets = flat_map (λ target. map (transition_to target) letters) targets

abbrev pub transitions_of_line : List ℕ → ListedLine → List Transition
transitions_of_line sizes line = transitions_by (letters_taken sizes line.digits) line.targets
