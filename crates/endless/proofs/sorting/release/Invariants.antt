use Rattle.std.proofs.Common.{take, length}
use Rattle.endless.specs.Counts.{AreReleased, AreFree, Grows}
use Rattle.endless.proofs.sorting.release.Given as goal

abbrev pub invariant-loop-transition : goal.invariant-loop-transition
invariant-loop-transition l = record {
  released : AreReleased l.without_zero (take l.transition-index l.transitions) l.fn.pending.items l.pending.items;
  free : AreFree l.pending.items l.order.items (length l.pending.items);
  grows : Grows l.fn.order.items l.order.items;
}
