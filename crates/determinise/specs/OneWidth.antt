-- Widths of the constructions.
use Rattle.digit_tuple.specs.Automaton.{Branching, letters_of}
use Rattle.digit_tuple.specs.Deterministic as det
use Rattle.digit_tuple.specs.Deterministic.{Automaton}
use Rattle.digit_tuple.specs.Width.{IsOneWidth}
use Rattle.determinise.specs.Reversed.{SameReversedResidual}
use Rattle.determinise.specs.Subsets.{Alike}

-- a subset construction has one width
abbrev pub OneSubsetWidth : Type 0
OneSubsetWidth = (n : Branching) → IsOneWidth (Alike n) (letters_of n)

-- a reversal has one width
abbrev pub OneReversalWidth : Type 0
OneReversalWidth = (d : Automaton) → IsOneWidth (SameReversedResidual d) (det.letters_of d)
