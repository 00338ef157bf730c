-- Widths of projections.
use Rattle.std.specs.Prelude.{ℕ, List}
use Rattle.digit_tuple.specs.Deterministic.{Automaton}
use Rattle.digit_tuple.specs.Width.{IsOneWidth}
use Rattle.digit_tuple.specs.declared.direction.Direction.{Direction}
use Rattle.project_close.specs.Projection.{ProjectionAlike}

-- a projection has one width
abbrev pub OneProjectionWidth : Type 0
OneProjectionWidth = (d : Automaton) (places : List ℕ) (direction : Direction) (letters : ℕ) → IsOneWidth (ProjectionAlike d places direction) letters
