use Rattle.std.proofs.Common.{◌≡◌, ℕ, ◌+◌, ◌<◌, ◌≤◌, length, take}
use Rattle.std.specs.List.{sum_by}
use Rattle.digit_tuple.specs.Deterministic.{State}
use Rattle.residual_classes.specs.Classes.{class_of}
use Rattle.residual_classes.specs.Hashes.{hash_of}
use Rattle.residual_classes.specs.LookCounts.{looked_at}
use Rattle.residual_classes.proofs.state_hashes.write_hashes.Given as goal

abbrev pub invariant-loop-state : goal.invariant-loop-state
invariant-loop-state g l = record {
  width : length l.out.items ≡ length l.part.hashes.now;
  are : (q : ℕ) → q < l.state → class_of l.out.items q ≡ hash_of l.part.dfa.now l.part.span.first l.part.span.end l.part.hashes.now q;
  looks : l.looks ≤ l.fn.looks + sum_by (λ (s : State). looked_at l.part.span.first l.part.span.end s.transitions) (take l.state l.part.dfa.now.states);
}
