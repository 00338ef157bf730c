-- Widths of products.
use Rattle.std.specs.Prelude.{ℕ, List}
use Rattle.digit_tuple.specs.Deterministic.{Automaton}
use Rattle.digit_tuple.specs.Width.{IsOneWidth}
use Rattle.minimise.specs.Tracked.{NamedAutomaton}
use Rattle.product_op.specs.declared.op.Op.{Op}
use Rattle.product_op.specs.Products.{ProductAlike}

-- a product has one width
abbrev pub OneProductWidth : Type 0
OneProductWidth = (op : Op) (a b : NamedAutomaton) (languages : List Automaton) (letters : ℕ) → IsOneWidth (ProductAlike op a b languages) letters
