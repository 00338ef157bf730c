-- The states that a table of the code denotes.
use Rattle.std.specs.Prelude.{List, map}
use Rattle.digit_tuple.specs.Automaton.{Branch}
use Rattle.digit_tuple.specs.declared.transitions.NfaState.{NfaState}

abbrev pub branch_in : NfaState → Branch
branch_in state = record { accepting = state.accepting; transitions = state.transitions.items }

abbrev pub branches_in : List NfaState → List Branch
branches_in states = map branch_in states
