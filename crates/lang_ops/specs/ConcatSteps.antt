-- The step that makes the automaton of a concatenation.
use Rattle.std.specs.Prelude.{◌≡◌, ◌↔◌, ℕ, List, IsTrue}
use Rattle.digit_tuple.specs.Deterministic.{Automaton, letters_of, accepts_of}
use Rattle.digit_tuple.specs.Letters.{IsWord}
use Rattle.digit_tuple.specs.declared.kind.Kind.TheVariants as kinds
use Rattle.minimise.specs.Canonical.{IsCanonical}
use Rattle.automaton_steps.specs.Makings.{Making}
use Rattle.lang_ops.specs.Concatenation.{ConcatAlike, IsConcatenated}

-- the canonical automaton that accepts the words of the first language followed by words of the second
pub record IsConcatAutomaton (a b made : Automaton) : Type 0 where
  pub sizes : made.sizes ≡ a.sizes
  pub canonical : IsCanonical made
  pub language : (w : List ℕ) → IsWord (letters_of a) w → IsTrue (accepts_of made w) ↔ IsConcatenated a b w

-- the step
abbrev pub concat_step : Automaton → Automaton → Making Automaton
concat_step a b = record {
  step = record { kind = kinds.Concat; sizes = a.sizes; alike = ConcatAlike a b };
  automaton_of = λ made. made;
  IsMade = IsConcatAutomaton a b;
}
