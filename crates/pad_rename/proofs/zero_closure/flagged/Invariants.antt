use Rattle.std.proofs.Common.{take}
use Rattle.pad_rename.specs.ZeroClosure.{AreFlagged}
use Rattle.pad_rename.proofs.zero_closure.flagged.Given as goal

abbrev pub invariant-loop-place : goal.invariant-loop-place
invariant-loop-place l = AreFlagged (take l.place l.flags) l.set.items
