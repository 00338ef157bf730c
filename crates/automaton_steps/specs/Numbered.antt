-- Automata whose tracks are named by their numbers, counted from 0.
use Rattle.std.specs.Prelude.{ℕ, List, length, map, decimal}
use Rattle.std.specs.List.{range_with_len}
use Rattle.digit_tuple.specs.Deterministic.{Automaton}
use Rattle.minimise.specs.Tracked.{NamedAutomaton}

-- the numbers below a count, in decimal
abbrev pub track_numbers : ℕ → List (List ℕ)
track_numbers count = map decimal (range_with_len 0 count)

-- the automaton, its tracks under their numbers
abbrev pub numbered : Automaton → NamedAutomaton
numbered d = record { names = track_numbers (length d.sizes); automaton = d }
