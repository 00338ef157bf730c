-- The step that combines two automata over the tracks of both by a connective.
use Rattle.std.specs.Prelude.{◌≡◌, ℕ, List}
use Rattle.digit_tuple.specs.Deterministic.{Automaton, accepts_of}
use Rattle.digit_tuple.specs.Letters.{product, IsWord}
use Rattle.digit_tuple.specs.Names.{joint_names}
use Rattle.digit_tuple.specs.declared.kind.Kind.TheVariants as kinds
use Rattle.minimise.specs.Canonical.{IsCanonical}
use Rattle.minimise.specs.Tracked.{NamedAutomaton}
use Rattle.product_op.specs.Products.{in_product, ProductAlike}
use Rattle.product_op.specs.Tracks.{joint_sizes}
use Rattle.product_op.specs.declared.op.Op.{Op}
use Rattle.automaton_steps.specs.Makings.{Making}

-- the canonical automaton, on the tracks of both in byte order of names, that accepts the words which are in the product
pub record IsJoin (op : Op) (languages : List Automaton) (a b joined : NamedAutomaton) : Type 0 where
  pub names : joined.names ≡ joint_names a.names b.names
  pub sizes : joined.automaton.sizes ≡ joint_sizes a b
  pub canonical : IsCanonical joined.automaton
  pub language : (w : List ℕ) → IsWord (product (joint_sizes a b)) w → accepts_of joined.automaton w ≡ in_product op a b languages w

-- the step
abbrev pub join_step : Op → List Automaton → NamedAutomaton → NamedAutomaton → Making NamedAutomaton
join_step op languages a b = record {
  step = record { kind = kinds.Product; sizes = joint_sizes a b; alike = ProductAlike op a b languages };
  automaton_of = λ joined. joined.automaton;
  IsMade = IsJoin op languages a b;
}
