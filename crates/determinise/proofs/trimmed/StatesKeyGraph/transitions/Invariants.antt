use Rattle.std.proofs.Common.{◌≡◌, map, take}
use Rattle.determinise.proofs.TrimmedLemmas.{key_transition_of}
use Rattle.determinise.proofs.trimmed.StatesKeyGraph.transitions.Given as goal

abbrev pub invariant-loop-transition : goal.invariant-loop-transition
invariant-loop-transition l = l.out ≡ map key_transition_of (take l.transition-index l.transition-items)
