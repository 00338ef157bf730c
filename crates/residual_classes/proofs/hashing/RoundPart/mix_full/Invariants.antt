use Rattle.std.proofs.Common.{◌≡◌, ◌+◌, ◌≤◌, take}
use Rattle.digit_tuple.specs.Deterministic.{transitions_of}
use Rattle.residual_classes.specs.Classes.{dead_class}
use Rattle.residual_classes.specs.ClassTransitions.{class_transitions}
use Rattle.residual_classes.specs.Hashes.{hash_transitions}
use Rattle.residual_classes.specs.LookCounts.{looked_at}
use Rattle.residual_classes.proofs.hashing.RoundPart.mix_full.Given as goal

abbrev pub invariant-loop-letter : goal.invariant-loop-letter
invariant-loop-letter g l = record {
  hash : l.hash ≡ hash_transitions l.self.span.first l.self.span.end l.start (class_transitions l.self.hashes.now (dead_class l.self.dfa.now l.self.hashes.now) (take l.letter (transitions_of l.self.dfa.now l.state)));
  looks : l.looks ≤ l.fn.looks + looked_at l.self.span.first l.self.span.end (take l.letter (transitions_of l.self.dfa.now l.state));
}
