use Rattle.std.proofs.Common.{◌<◌}
use Rattle.std.specs.List.{AllWithin}
use Rattle.digit_tuple.proofs.nfa.are_in_range.Given as goal

abbrev pub invariant-loop-transition : goal.invariant-loop-transition
invariant-loop-transition l = AllWithin (λ transition. (transition.letter < l.letters) × (transition.target < l.states)) l.transitions 0 l.transition-index
