-- The automaton of no words.
use Rattle.std.specs.Prelude.{ℕ, false, List, [], ◌∷◌}
use Rattle.digit_tuple.specs.Deterministic.{Automaton}

-- the automaton of one state that accepts nothing
abbrev pub bare_automaton : List ℕ → Automaton
bare_automaton sizes = record { sizes = sizes; states = (record { accepting = false; transitions = [] }) ∷ [] }
