-- Deterministic automata seen as nondeterministic ones.
use Rattle.std.specs.Prelude.{map}
use Rattle.digit_tuple.specs.Automaton.{Branch, Branching}
use Rattle.digit_tuple.specs.Deterministic.{Automaton, State}

-- the same state
abbrev pub branch_as : State → Branch
branch_as state = record { accepting = state.accepting; transitions = state.transitions }

-- the same automaton
abbrev pub branching_as : Automaton → Branching
branching_as d = record { sizes = d.sizes; states = map branch_as d.states }
