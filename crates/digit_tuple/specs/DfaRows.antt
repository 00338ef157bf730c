-- The states that a deterministic table of the code denotes.
use Rattle.std.specs.Prelude.{Bool, List, [], ◌∷◌, map}
use Rattle.digit_tuple.specs.Deterministic.{State}
use Rattle.digit_tuple.specs.declared.transitions.Transition.{Transition}
use Rattle.digit_tuple.specs.declared.dfa.DfaState.{DfaState}

abbrev pub state_in : DfaState → State
state_in state = record { accepting = state.accepting; transitions = state.transitions.items }

abbrev pub states_in : List DfaState → List State
states_in states = map state_in states

-- the states that accept as the flags say and have the transitions of the rows
abbrev pub flagged : List Bool → List (List Transition) → List State
flagged [] rows = []
flagged (flag ∷ flags) [] = []
flagged (flag ∷ flags) (row ∷ rows) = (record { accepting = flag; transitions = row }) ∷ flagged flags rows
