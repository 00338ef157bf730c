-- The states of an automaton after others.
use Rattle.std.specs.Prelude.{ℕ, ◌+◌, map}
use Rattle.digit_tuple.specs.Automaton.{Branch}
use Rattle.digit_tuple.specs.Deterministic.{State}
use Rattle.digit_tuple.specs.declared.transitions.Transition.{Transition}

-- the transition, where so many states are before those of its automaton
abbrev pub shifted_transition : ℕ → Transition → Transition
shifted_transition before transition = record { letter = transition.letter; target = transition.target + before }

-- the state, where so many are before those of its automaton
abbrev pub shifted_state : ℕ → State → Branch
shifted_state before state = record { accepting = state.accepting; transitions = map (shifted_transition before) state.transitions }
