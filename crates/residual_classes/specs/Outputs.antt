-- Outputs of states: the classes that are given, of which the sink has 0.
use Rattle.std.specs.Prelude.{◌≡◌, ℕ, Bool, List, map, length, if◌then◌else◌}
use Rattle.digit_tuple.specs.Deterministic.{Automaton, State, states_of}
use Rattle.residual_classes.specs.declared.machine.Machine.{Machine}
use Rattle.residual_classes.specs.ClassFunctions.{SameClassesFrom}

-- each state has an output
abbrev pub HasOutputs : Machine → Type 0
HasOutputs m = length m.outputs.now ≡ states_of m.dfa.now

-- each word leads from both states to one output
abbrev pub SameOutputs : Automaton → List ℕ → ℕ → ℕ → Type 0
SameOutputs d outputs p q = SameClassesFrom d outputs p d outputs q

abbrev pub bit_of : Bool → ℕ
bit_of b = if b then 1 else 0

-- for each state 1 where it accepts, and 0 elsewhere
abbrev pub bits_of : Automaton → List ℕ
bits_of d = map (λ (state : State). bit_of state.accepting) d.states
