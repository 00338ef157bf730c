use Rattle.std.proofs.Common.{◌≡◌, map}
use Rattle.std.specs.List.{range_with_len}
use Rattle.digit_tuple.specs.Deterministic.{accepting_of}
use Rattle.digit_tuple.proofs.accepting_states.accepting_flags.Given as goal

abbrev pub invariant-loop-state : goal.invariant-loop-state
invariant-loop-state l = l.flags.items ≡ map (accepting_of l.d) (range_with_len 0 l.state)
