-- How many cells transitions take as decisions by tracks: on each track one for each digit by which a transition goes on.
use Rattle.std.specs.Prelude.{◌==◌, ℕ, ◌+◌, ◌/◌, ◌%◌, List, [], ◌∷◌, sum_by, if◌then◌else◌}
use Rattle.std.specs.List.{range_with_len}
use Rattle.digit_tuple.specs.Letters.{product}
use Rattle.digit_tuple.specs.Reversed.{transition_to}
use Rattle.digit_tuple.specs.declared.transitions.Transition.{Transition}

-- the transitions after a digit of the first track, where the later tracks have so many letters: those by letters that begin with the digit, each by the rest of its
-- letter
abbrev pub transitions_after : ℕ → ℕ → List Transition → List Transition
transitions_after letters digit [] = []
transitions_after letters digit (transition ∷ transitions) = if transition.letter / letters == digit then transition_to (transition.letter % letters) transition.target ∷ transitions_after letters digit transitions else transitions_after letters digit transitions

-- one where there is a transition
abbrev pub one_if_any : List Transition → ℕ
one_if_any [] = 0
one_if_any (transition ∷ transitions) = 1

-- the cells of transitions on tracks of these sizes: for each digit of the first track by which a transition goes on one, and those of the transitions after it on
-- the later tracks
abbrev pub cells_of : List ℕ → List Transition → ℕ
cells_of [] transitions = 0
cells_of (size ∷ sizes) transitions = sum_by (λ digit. one_if_any (transitions_after (product sizes) digit transitions) + cells_of sizes (transitions_after (product sizes) digit transitions)) (range_with_len 0 size)
