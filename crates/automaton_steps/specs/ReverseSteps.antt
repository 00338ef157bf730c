-- The step that makes the automaton of the reversed words.
use Rattle.std.specs.Prelude.{◌≡◌, ℕ, List, reverse}
use Rattle.digit_tuple.specs.Deterministic.{Automaton, letters_of, accepts_of}
use Rattle.digit_tuple.specs.Letters.{IsWord}
use Rattle.digit_tuple.specs.declared.kind.Kind.TheVariants as kinds
use Rattle.determinise.specs.Reversed.{SameReversedResidual}
use Rattle.minimise.specs.Canonical.{IsCanonical}
use Rattle.automaton_steps.specs.Makings.{Making}

-- the canonical automaton that accepts the words of which the other one accepts the reversal
pub record IsReversed (argument reversed : Automaton) : Type 0 where
  pub sizes : reversed.sizes ≡ argument.sizes
  pub canonical : IsCanonical reversed
  pub language : (w : List ℕ) → IsWord (letters_of argument) w → accepts_of reversed w ≡ accepts_of argument (reverse w)

-- the step: words are alike after which the reversed language goes on alike
abbrev pub reverse_step : Automaton → Making Automaton
reverse_step argument = record {
  step = record { kind = kinds.Reverse; sizes = argument.sizes; alike = SameReversedResidual argument };
  automaton_of = λ reversed. reversed;
  IsMade = IsReversed argument;
}
