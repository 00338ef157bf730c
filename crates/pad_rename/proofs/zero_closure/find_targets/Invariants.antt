use Rattle.std.proofs.Common.{take, length}
use Rattle.pad_rename.specs.ZeroClosure.{AreFound, AreFoundToo, IsTargetOf}
use Rattle.pad_rename.proofs.zero_closure.find_targets.Given as goal

abbrev pub invariant-loop-transition : goal.invariant-loop-transition
invariant-loop-transition l = record {
  found : AreFound (length l.fn.flags) l.flags l.found.items;
  too : AreFoundToo l.fn.found.items l.found.items (IsTargetOf l.letters (take l.transition-index l.transitions));
}
