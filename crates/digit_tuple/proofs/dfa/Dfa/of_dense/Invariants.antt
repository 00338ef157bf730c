use Rattle.std.proofs.Common.{◌≡◌, take}
use Rattle.digit_tuple.specs.Deterministic.{Automaton}
use Rattle.digit_tuple.proofs.dfa.Dfa.of_dense.Given as goal

abbrev pub invariant-loop-state : goal.invariant-loop-state
invariant-loop-state l = l.states ≡ (let d : Automaton = record { sizes = l.dense.sizes; states = take l.state l.dense.states } in d)
