use Rattle.std.proofs.Common.{◌≡◌, take}
use Rattle.std.specs.List.{flat_map}
use Rattle.digit_tuple.specs.Automaton.{transitions_of}
use Rattle.determinise.proofs.subsets.transitions_from.Given as goal

abbrev pub invariant-loop-state : goal.invariant-loop-state
invariant-loop-state l = l.transitions.items ≡ flat_map (transitions_of l.nfa) (take l.state-index l.set)
