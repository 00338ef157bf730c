-- Widths of closures under padding.
use Rattle.digit_tuple.specs.Deterministic.{Automaton, letters_of}
use Rattle.digit_tuple.specs.Width.{IsOneWidth}
use Rattle.digit_tuple.specs.declared.direction.Direction.{Direction}
use Rattle.pad_rename.specs.Padding.{PaddedAlike}

-- a closure under padding has one width
abbrev pub OnePaddingWidth : Type 0
OnePaddingWidth = (d : Automaton) (direction : Direction) → IsOneWidth (PaddedAlike direction d) (letters_of d)
