use Rattle.std.proofs.Common.{◌≡◌, ◌++◌, filter, take}
use Rattle.pad_rename.specs.PaddedSets.{is_by_other}
use Rattle.pad_rename.proofs.padding_msd.push_by_others.Given as goal

abbrev pub invariant-loop-place : goal.invariant-loop-place
invariant-loop-place l = l.out ≡ l.initial.out ++ filter is_by_other (take l.place l.transitions)
