-- The letters of transitions, in a list or each at its own place.
use Rattle.std.specs.Prelude.{ℕ, ◌-◌, ◌++◌, List, map, slice_index, Option, None, Some}
use Rattle.digit_tuple.specs.declared.transitions.Transition.{Transition}
use Rattle.residual_classes.specs.declared.transition_letters.TransitionLetters.{TransitionLetters}
use Rattle.residual_classes.specs.declared.transition_letters.TransitionLetters.TheVariants.{Full, Listed}

-- the letters, where they are listed
abbrev pub listed : TransitionLetters → Option (List ℕ)
listed Full = None
listed (Listed letters) = Some letters.items

-- the letter of the transition at a place, where the transitions of its state begin at a start
abbrev pub letter_at : Option (List ℕ) → ℕ → ℕ → ℕ
letter_at None start place = place - start
letter_at (Some letters) start place = slice_index letters place

-- with those of one more state
abbrev pub with_letters : List Transition → Option (List ℕ) → Option (List ℕ)
with_letters row None = None
with_letters row (Some letters) = Some (letters ++ map (λ transition. transition.letter) row)
