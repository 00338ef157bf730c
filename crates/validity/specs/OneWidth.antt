-- Widths of complements among valid words and of valid parts.
use Rattle.std.specs.Prelude.{ℕ, List}
use Rattle.digit_tuple.specs.Deterministic.{Automaton}
use Rattle.digit_tuple.specs.Width.{IsOneWidth}
use Rattle.minimise.specs.Tracked.{NamedAutomaton}
use Rattle.validity.specs.ValidParts.{ValidityAlike}

-- a complement among valid words has one width, and a valid part the same
abbrev pub OneValidityWidth : Type 0
OneValidityWidth = (a : NamedAutomaton) (languages : List Automaton) (letters : ℕ) → IsOneWidth (ValidityAlike a languages) letters
