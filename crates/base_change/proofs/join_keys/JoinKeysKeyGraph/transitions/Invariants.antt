use Rattle.digit_tuple.specs.Keys.{AreKeyTransitions}
use Rattle.base_change.specs.GroupKeys.{join_after}
use Rattle.base_change.proofs.join_keys.JoinKeysKeyGraph.transitions.Given as goal

abbrev pub invariant-loop-letter : goal.invariant-loop-letter
invariant-loop-letter l = AreKeyTransitions l.letter (join_after l.self.dfa.now l.self.root l.self.digits l.key) l.out
