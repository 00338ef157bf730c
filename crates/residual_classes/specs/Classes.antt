-- Classes of states. The sink, where missing targets lead, is the number past the states.
use Rattle.std.specs.Prelude.{◌==◌, ℕ, not, ◌&&◌, List, length, Option, None, Some, slice_index_or, unwrap_or, if◌then◌else◌}
use Rattle.digit_tuple.specs.Deterministic.{Automaton, states_of, accepting_of, transitions_of, step_of}

-- the class of a state
abbrev pub class_of : List ℕ → ℕ → ℕ
class_of classes q = slice_index_or classes q 0

-- where a letter leads, to the sink where there is no transition
abbrev pub next_of : Automaton → ℕ → ℕ → ℕ
next_of d q letter = unwrap_or (step_of d q letter) (states_of d)

-- the initial state, or the sink where a canonical automaton accepts nothing
abbrev pub first_of : Automaton → ℕ
first_of d = if not (accepting_of d 0) && (length (transitions_of d 0) == 0) then states_of d else 0

-- the class of the sink, and of all states that are like it
abbrev pub dead_class : Automaton → List ℕ → ℕ
dead_class d classes = class_of classes (states_of d)

-- the class of a state, unless it is the dead one
abbrev pub live_class : Automaton → List ℕ → ℕ → Option ℕ
live_class d classes q = if class_of classes q == dead_class d classes then None else Some (class_of classes q)
