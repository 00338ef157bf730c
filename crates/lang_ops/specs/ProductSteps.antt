-- The step that combines two languages over the same tracks by a connective.
use Rattle.std.specs.Prelude.{◌≡◌, ℕ, List}
use Rattle.digit_tuple.specs.Deterministic.{Automaton, letters_of, accepts_of}
use Rattle.digit_tuple.specs.Letters.{IsWord}
use Rattle.digit_tuple.specs.declared.kind.Kind.TheVariants as kinds
use Rattle.minimise.specs.Canonical.{IsCanonical}
use Rattle.product_op.specs.Connectives.{connective}
use Rattle.product_op.specs.declared.op.Op.{Op}
use Rattle.automaton_steps.specs.Makings.{Making}
use Rattle.lang_ops.specs.Pairs.{PairAlike}

-- the canonical automaton that accepts a word as the connective says of whether both automata accept it
pub record IsCombination (op : Op) (a b made : Automaton) : Type 0 where
  pub sizes : made.sizes ≡ a.sizes
  pub canonical : IsCanonical made
  pub language : (w : List ℕ) → IsWord (letters_of a) w → accepts_of made w ≡ connective op (accepts_of a w) (accepts_of b w)

-- the step
abbrev pub product_step : Op → Automaton → Automaton → Making Automaton
product_step op a b = record {
  step = record { kind = kinds.Product; sizes = a.sizes; alike = PairAlike a b };
  automaton_of = λ made. made;
  IsMade = IsCombination op a b;
}
