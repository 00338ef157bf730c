-- The step that takes zeros at the end of the most significant letters away from words, and puts any number of them there.
use Rattle.std.specs.Prelude.{◌≡◌, ◌↔◌, ℕ, List, IsTrue}
use Rattle.digit_tuple.specs.Deterministic.{Automaton, letters_of, accepts_of}
use Rattle.digit_tuple.specs.Letters.{IsWord}
use Rattle.digit_tuple.specs.declared.direction.Direction.{Direction}
use Rattle.digit_tuple.specs.declared.kind.Kind.TheVariants as kinds
use Rattle.minimise.specs.Canonical.{IsCanonical}
use Rattle.pad_rename.specs.Padding.{IsPadded, PaddedAlike}
use Rattle.automaton_steps.specs.Makings.{Making}

-- the canonical automaton that accepts the words which the other one accepts with other zeros at that end
pub record IsClosure (direction : Direction) (argument closed : Automaton) : Type 0 where
  pub sizes : closed.sizes ≡ argument.sizes
  pub canonical : IsCanonical closed
  pub language : (w : List ℕ) → IsWord (letters_of argument) w → IsTrue (accepts_of closed w) ↔ IsPadded direction argument w

-- the step
abbrev pub pad_step : Direction → Automaton → Making Automaton
pad_step direction argument = record {
  step = record { kind = kinds.Pad; sizes = argument.sizes; alike = PaddedAlike direction argument };
  automaton_of = λ closed. closed;
  IsMade = IsClosure direction argument;
}
