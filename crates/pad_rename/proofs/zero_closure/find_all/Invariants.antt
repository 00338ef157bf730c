use Rattle.std.proofs.Common.{take, length}
use Rattle.std.specs.List.{Contains}
use Rattle.pad_rename.specs.ZeroClosure.{AreFound, AreFoundToo}
use Rattle.pad_rename.proofs.zero_closure.find_all.Given as goal

abbrev pub invariant-loop-state : goal.invariant-loop-state
invariant-loop-state l = record {
  found : AreFound (length l.fn.flags) l.flags l.found.items;
  too : AreFoundToo l.fn.found.items l.found.items (Contains (take l.state-index l.states));
}
