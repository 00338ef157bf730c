-- The steps that keep the words whose tracks are each in the language of a system: those which an automaton accepts, or those which it does not.
use Rattle.std.specs.Prelude.{◌≡◌, ℕ, Bool, List}
use Rattle.digit_tuple.specs.Deterministic.{Automaton, letters_of, accepts_of}
use Rattle.digit_tuple.specs.Letters.{IsWord}
use Rattle.digit_tuple.specs.declared.kind.Kind.{Kind}
use Rattle.digit_tuple.specs.declared.kind.Kind.TheVariants as kinds
use Rattle.minimise.specs.Canonical.{IsCanonical}
use Rattle.minimise.specs.Tracked.{NamedAutomaton}
use Rattle.validity.specs.ValidParts.{in_valid_part, in_complement, ValidityAlike}
use Rattle.automaton_steps.specs.Makings.{Making}

-- the canonical automaton, on the tracks of the other one, that accepts these words
pub record IsOnTracksOf (argument : NamedAutomaton) (is_in : List ℕ → Bool) (made : NamedAutomaton) : Type 0 where
  pub names : made.names ≡ argument.names
  pub sizes : made.automaton.sizes ≡ argument.automaton.sizes
  pub canonical : IsCanonical made.automaton
  pub language : (w : List ℕ) → IsWord (letters_of argument.automaton) w → accepts_of made.automaton w ≡ is_in w

-- the words that the other one accepts and which are valid
abbrev pub IsValidPart : List Automaton → NamedAutomaton → NamedAutomaton → Type 0
IsValidPart languages argument = IsOnTracksOf argument (in_valid_part argument languages)

-- the valid words that the other one does not accept
abbrev pub IsComplement : List Automaton → NamedAutomaton → NamedAutomaton → Type 0
IsComplement languages argument = IsOnTracksOf argument (in_complement argument languages)

-- the step of this kind that keeps these words
abbrev pub validity_step : Kind → (List ℕ → Bool) → List Automaton → NamedAutomaton → Making NamedAutomaton
validity_step kind is_in languages argument = record {
  step = record { kind = kind; sizes = argument.automaton.sizes; alike = ValidityAlike argument languages };
  automaton_of = λ made. made.automaton;
  IsMade = IsOnTracksOf argument is_in;
}

abbrev pub valid_step : List Automaton → NamedAutomaton → Making NamedAutomaton
valid_step languages argument = validity_step kinds.Valid (in_valid_part argument languages) languages argument

abbrev pub complement_step : List Automaton → NamedAutomaton → Making NamedAutomaton
complement_step languages argument = validity_step kinds.Complement (in_complement argument languages) languages argument
