use Rattle.std.proofs.Common.{◌+◌, ◌*◌, ◌≤◌}
use Rattle.digit_tuple.specs.Deterministic.{states_of}
use Rattle.digit_tuple.specs.TransitionCounts.{transition_count}
use Rattle.residual_classes.specs.CoarseClasses.{AreCoarseNumbers}
use Rattle.residual_classes.specs.RoundCosts.{AreCounted, IsCheap}
use Rattle.residual_classes.proofs.rounds.classes_after_rounds.Given as goal

abbrev pub invariant-loop-round : goal.invariant-loop-round
invariant-loop-round g l = record {
  hashes : AreCoarseNumbers l.machine.dfa.now l.machine.outputs.now l.hashes.hashes.items;
  counted : AreCounted l.machine.dfa.now l.machine.outputs.now l.counted;
  cheap : IsCheap (states_of l.machine.dfa.now) l.round l.counted.largest;
  looks : l.looks ≤ l.fn.looks + l.round * transition_count l.machine.dfa.now;
}
