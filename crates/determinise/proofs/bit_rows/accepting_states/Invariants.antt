use Rattle.std.proofs.Common.{◌≡◌, filter}
use Rattle.std.specs.List.{range_with_len}
use Rattle.digit_tuple.specs.Automaton.{accepting_of}
use Rattle.determinise.proofs.bit_rows.accepting_states.Given as goal

abbrev pub invariant-loop-state : goal.invariant-loop-state
invariant-loop-state l = l.states.items ≡ filter (accepting_of l.nfa) (range_with_len 0 l.state)
