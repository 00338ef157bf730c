-- What a walk is: an automaton whose words it lists, and the place at which it is.
use Rattle.std.specs.Prelude.{◌≡◌, ℕ, ◌+◌, ◌*◌, ◌≤◌, List, length, Option, Some}
use Rattle.std.specs.Option.{option_map_or}
use Rattle.digit_tuple.specs.Deterministic.{Automaton, IsTable, accepts_of, letters_of, states_of}
use Rattle.digit_tuple.specs.declared.direction.Direction.{Direction}
use Rattle.word_walk.specs.Listed.{is_listed, IsListing}
use Rattle.word_walk.specs.Following.{IsNext}

pub record WalkValue : Type 0 where
  pub listing : Automaton
  pub place : Option (List ℕ)

-- the walk is at the place, over the listed words
pub record IsWalk (d : Automaton) (skip : Option Direction) (place : Option (List ℕ)) (walk : WalkValue) : Type 0 where
  pub listing : IsListing d skip walk.listing
  pub at : walk.place ≡ place

-- the walk went on to the word, the next one
pub record IsWalked (old new : WalkValue) (w : List ℕ) : Type 0 where
  pub next : IsNext (accepts_of old.listing) old.place w
  pub listing : new.listing ≡ old.listing
  pub place : new.place ≡ Some w

-- a next word is longer than the place by at most twice the number of states
abbrev pub NextWordsAreNear : Type 0
NextWordsAreNear = (d : Automaton) (skip : Option Direction) (place : Option (List ℕ)) (w : List ℕ) → IsTable (letters_of d) d.states → IsNext (is_listed d skip) place w → length w ≤ option_map_or length place 0 + 2 * states_of d
