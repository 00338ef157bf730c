use Rattle.std.specs.List.{AllAdjacentBelow}
use Rattle.digit_tuple.specs.Automaton.{IsBefore}
use Rattle.digit_tuple.proofs.nfa.are_ascending.Given as goal

abbrev pub invariant-loop-place : goal.invariant-loop-place
invariant-loop-place l = AllAdjacentBelow IsBefore l.transitions l.place
