use Rattle.std.proofs.Common.{◌≡◌, map, take}
use Rattle.digit_tuple.specs.Deterministic.{State}
use Rattle.residual_classes.specs.Outputs.{bit_of}
use Rattle.residual_classes.proofs.machine.accepting_outputs.Given as goal

abbrev pub invariant-loop-state : goal.invariant-loop-state
invariant-loop-state l = l.outputs.items ≡ map (λ (state : State). bit_of state.accepting) (take l.state l.dfa.states)
