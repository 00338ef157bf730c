use Rattle.digit_tuple.specs.Keys.{AreKeyTransitions}
use Rattle.base_change.specs.GroupKeys.{split_after}
use Rattle.base_change.proofs.split_keys.SplitKeysKeyGraph.transitions.Given as goal

abbrev pub invariant-loop-digit : goal.invariant-loop-digit
invariant-loop-digit l = AreKeyTransitions l.digit (split_after l.self.dfa.now l.self.root l.self.digits l.key) l.out
