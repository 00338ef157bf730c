-- Widths of the operations.
use Rattle.digit_tuple.specs.Deterministic.{Automaton, letters_of}
use Rattle.digit_tuple.specs.Width.{IsOneWidth}
use Rattle.lang_ops.specs.Concatenation.{ConcatAlike}
use Rattle.lang_ops.specs.Pairs.{PairAlike}
use Rattle.lang_ops.specs.Star.{StarAlike}

-- a concatenation has one width
abbrev pub OneConcatWidth : Type 0
OneConcatWidth = (a b : Automaton) → IsOneWidth (ConcatAlike a b) (letters_of a)

-- a star has one width
abbrev pub OneStarWidth : Type 0
OneStarWidth = (a : Automaton) → IsOneWidth (StarAlike a) (letters_of a)

-- a connective has one width
abbrev pub OnePairWidth : Type 0
OnePairWidth = (a b : Automaton) → IsOneWidth (PairAlike a b) (letters_of a)
