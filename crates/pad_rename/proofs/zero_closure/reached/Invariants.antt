use Rattle.std.proofs.Common.{◌-◌}
use Rattle.digit_tuple.specs.Automaton.{states_of}
use Rattle.pad_rename.proofs.ZeroClosureLemmas.{IsSearch}
use Rattle.pad_rename.proofs.zero_closure.reached.Given as goal

abbrev pub invariant-loop-next : goal.invariant-loop-next
invariant-loop-next l = IsSearch l.nfa l.letters l.first l.flags.items l.found.items l.next

abbrev pub decreases-loop-next : goal.decreases-loop-next
decreases-loop-next l = states_of l.nfa - l.next
