use Rattle.std.proofs.Common.{◌≡◌, ◌++◌, take}
use Rattle.pad_rename.specs.PaddedPairs.{transitions_by_others}
use Rattle.pad_rename.proofs.padded_pairs.push_by_others.Given as goal

abbrev pub invariant-loop-transition : goal.invariant-loop-transition
invariant-loop-transition l = l.out ≡ l.initial.out ++ transitions_by_others (take l.transition-index l.row)
