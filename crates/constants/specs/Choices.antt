-- The next digit of the word before which so many words are.
use Rattle.std.specs.Prelude.{◌≡◌, ℕ, ◌+◌, ◌<◌, List, [], ◌∷◌, ◌++◌}
use Rattle.digit_tuple.specs.Deterministic.{Automaton, letters_of}
use Rattle.digit_tuple.specs.declared.direction.Direction.{Direction}
use Rattle.constants.specs.Continuations.{read, continuations, continuations_below}
use Rattle.constants.specs.Prefixes.{IsPrefix}
use Rattle.constants.specs.declared.representation.Choice.{Choice}

-- of the words that go on from this one, as many go on by a lesser digit as are taken from the number, and by this digit more than are left
pub record IsChoice (direction : Direction) (a : Automaton) (w : List ℕ) (n number : ℕ) (choice : Choice) : Type 0 where
  pub digit : choice.digit < letters_of a
  pub prefix : IsPrefix direction a (w ++ choice.digit ∷ []) choice.prefix
  pub before : continuations_below (letters_of a) (read direction a) w n choice.digit + choice.rest ≡ number
  pub within : choice.rest < continuations (letters_of a) (read direction a) (w ++ choice.digit ∷ []) n
