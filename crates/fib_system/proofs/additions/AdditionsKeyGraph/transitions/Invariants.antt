use Rattle.digit_tuple.specs.Keys.{AreKeyTransitions}
use Rattle.fib_system.specs.Additions.{key_after}
use Rattle.fib_system.proofs.additions.AdditionsKeyGraph.transitions.Given as goal

abbrev pub invariant-loop-letter : goal.invariant-loop-letter
invariant-loop-letter l = AreKeyTransitions l.letter (key_after l.key) l.out
