use Rattle.endless.specs.Counts.{AreIncoming}
use Rattle.endless.proofs.sorting.incoming.Given as goal

abbrev pub invariant-loop-state : goal.invariant-loop-state
invariant-loop-state l = AreIncoming l.language l.without l.pending.items l.state
