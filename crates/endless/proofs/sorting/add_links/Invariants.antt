use Rattle.std.proofs.Common.{take}
use Rattle.endless.specs.Counts.{AreAdded}
use Rattle.endless.proofs.sorting.add_links.Given as goal

abbrev pub invariant-loop-transition : goal.invariant-loop-transition
invariant-loop-transition l = AreAdded l.without_zero (take l.transition-index l.transitions) l.fn.pending.items l.pending.items
