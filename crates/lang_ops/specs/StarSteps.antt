-- The step that makes the automaton of a star.
use Rattle.std.specs.Prelude.{◌≡◌, ◌↔◌, ℕ, List, IsTrue}
use Rattle.digit_tuple.specs.Deterministic.{Automaton, letters_of, accepts_of}
use Rattle.digit_tuple.specs.Letters.{IsWord}
use Rattle.digit_tuple.specs.declared.kind.Kind.TheVariants as kinds
use Rattle.minimise.specs.Canonical.{IsCanonical}
use Rattle.automaton_steps.specs.Makings.{Making}
use Rattle.lang_ops.specs.Star.{IsStarred, StarAlike}

-- the canonical automaton that accepts the words joined of words of the language
pub record IsStarAutomaton (a made : Automaton) : Type 0 where
  pub sizes : made.sizes ≡ a.sizes
  pub canonical : IsCanonical made
  pub language : (w : List ℕ) → IsWord (letters_of a) w → IsTrue (accepts_of made w) ↔ IsStarred a w

-- the step
abbrev pub star_step : Automaton → Making Automaton
star_step a = record {
  step = record { kind = kinds.Star; sizes = a.sizes; alike = StarAlike a };
  automaton_of = λ made. made;
  IsMade = IsStarAutomaton a;
}
