use Rattle.std.specs.List.{AllWithin}
use Rattle.digit_tuple.specs.Automaton.{IsRow}
use Rattle.digit_tuple.proofs.nfa.is_table.Given as goal

abbrev pub invariant-loop-state : goal.invariant-loop-state
invariant-loop-state l = AllWithin (λ state. IsRow l.letters l.count state.transitions.items) l.states 0 l.state-index
