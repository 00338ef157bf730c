-- The step that makes the order of a system's numbers.
use Rattle.std.specs.Prelude.{◌≡◌}
use Rattle.digit_tuple.specs.Deterministic.{Automaton}
use Rattle.digit_tuple.specs.declared.direction.Direction.{Direction}
use Rattle.digit_tuple.specs.declared.kind.Kind.TheVariants as kinds
use Rattle.minimise.specs.Canonical.{IsCanonical}
use Rattle.numeration.specs.Relations.{IsLanguageOf, IsOrderOf}
use Rattle.numeration.specs.Systems.{System, IsSystem}
use Rattle.number_order.specs.Orders.{OrderAlike, pair_sizes}
use Rattle.automaton_steps.specs.Makings.{Making}

-- the canonical automaton, on two tracks, of the pairs of numbers in order, for a system with this language
pub record IsOrder (direction : Direction) (language ordered : Automaton) : Type 0 where
  pub sizes : ordered.sizes ≡ pair_sizes language
  pub canonical : IsCanonical ordered
  pub order : (s : System) → IsSystem s → IsLanguageOf direction s language → IsOrderOf direction s ordered

-- the step
abbrev pub order_step : Direction → Automaton → Making Automaton
order_step direction language = record {
  step = record { kind = kinds.Order; sizes = pair_sizes language; alike = OrderAlike direction language };
  automaton_of = λ ordered. ordered;
  IsMade = IsOrder direction language;
}
