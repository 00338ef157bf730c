-- Automata with a state for each prefix of one word.
use Rattle.std.specs.Prelude.{◌≡◌, ℕ, suc, ◌<◌, ◌≤◌, nat_eq, List, length, slice_index_or, None, Some}
use Rattle.digit_tuple.specs.Paddings.{in_order}
use Rattle.digit_tuple.specs.Deterministic.{Automaton, states_of, accepting_of, step_of}
use Rattle.digit_tuple.specs.declared.direction.Direction.{Direction}
use Rattle.digit_tuple.specs.declared.direction.Direction.TheVariants.{Msd, Lsd}

-- the letter is the word's next one after a prefix shorter than some length
abbrev pub IsNextLetter : List ℕ → ℕ → ℕ → ℕ → Type 0
IsNextLetter word few q letter = (q < few) × (letter ≡ slice_index_or word q 0)

-- a state for each prefix of the word up to a length, from which the word's next letter alone leads on; the whole word accepts
pub record IsPathTo (word : List ℕ) (few : ℕ) (d : Automaton) : Type 0 where
  pub states : states_of d ≡ suc few
  pub accepting : (q : ℕ) → q ≤ few → accepting_of d q ≡ nat_eq q (length word)
  pub along : (q : ℕ) → q < few → step_of d q (slice_index_or word q 0) ≡ Some (suc q)
  pub stops : (q letter : ℕ) → ¬ IsNextLetter word few q letter → step_of d q letter ≡ None

-- the prefix of a word of a length at which padding zeros are: no letter, or all of them
abbrev pub padding_prefix : Direction → ℕ → ℕ
padding_prefix Msd long = 0
padding_prefix Lsd long = long

-- the letter is a zero more at that prefix
abbrev pub IsPaddingZero : Direction → List ℕ → ℕ → ℕ → Type 0
IsPaddingZero direction word q letter = (q ≡ padding_prefix direction (length word)) × (letter ≡ 0)

-- a state for each prefix of the word as the direction reads it, where padding zeros stay, and the word's next letter leads on
pub record IsPaddingPath (direction : Direction) (word : List ℕ) (d : Automaton) : Type 0 where
  pub accepting : (q : ℕ) → q ≤ length word → accepting_of d q ≡ nat_eq q (length word)
  pub along : (q : ℕ) → q < length word → step_of d q (slice_index_or (in_order direction word) q 0) ≡ Some (suc q)
  pub stays : step_of d (padding_prefix direction (length word)) 0 ≡ Some (padding_prefix direction (length word))
  pub stops : (q letter : ℕ) → ¬ IsNextLetter (in_order direction word) (length word) q letter → ¬ IsPaddingZero direction word q letter → step_of d q letter ≡ None
