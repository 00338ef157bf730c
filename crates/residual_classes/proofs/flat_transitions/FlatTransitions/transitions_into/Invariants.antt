use Rattle.std.proofs.Common.{◌≡◌, ◌-◌, ◌<◌, take}
use Rattle.digit_tuple.specs.Deterministic.{Automaton, transitions_of, states_of}
use Rattle.residual_classes.specs.FlatTransitions.{AreFlat}
use Rattle.residual_classes.proofs.flat_transitions.FlatTransitions.transitions_into.Given as goal

abbrev pub invariant-loop-place : goal.invariant-loop-place
invariant-loop-place l = (d : Automaton) → AreFlat d l.self → l.state < states_of d → l.row.items ≡ take (l.place - l.start) (transitions_of d l.state)
