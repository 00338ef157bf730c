-- The step that makes the automaton of the language that a nondeterministic one has, as a file lists it.
use Rattle.std.specs.Prelude.{◌≡◌, ◌↔◌, ℕ, List, IsTrue}
use Rattle.digit_tuple.specs.Automaton.{Branching, Accepts, letters_of}
use Rattle.digit_tuple.specs.Deterministic.{Automaton, accepts_of}
use Rattle.digit_tuple.specs.Letters.{IsWord}
use Rattle.digit_tuple.specs.declared.kind.Kind.TheVariants as kinds
use Rattle.determinise.specs.Subsets.{Alike}
use Rattle.minimise.specs.Canonical.{IsCanonical}
use Rattle.automaton_steps.specs.Makings.{Making}

-- the canonical automaton that accepts the same words
pub record IsRead (listed : Branching) (read : Automaton) : Type 0 where
  pub sizes : read.sizes ≡ listed.sizes
  pub canonical : IsCanonical read
  pub language : (w : List ℕ) → IsWord (letters_of listed) w → IsTrue (accepts_of read w) ↔ Accepts listed w

-- the step: words are alike that lead to the same states
abbrev pub read_step : Branching → Making Automaton
read_step listed = record {
  step = record { kind = kinds.Read; sizes = listed.sizes; alike = Alike listed };
  automaton_of = λ read. read;
  IsMade = IsRead listed;
}
