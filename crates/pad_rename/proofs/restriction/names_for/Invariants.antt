use Rattle.std.proofs.Common.{◌≡◌, take}
use Rattle.pad_rename.specs.Restriction.{names_for}
use Rattle.pad_rename.proofs.restriction.names_for.Given as goal

abbrev pub invariant-loop-name : goal.invariant-loop-name
invariant-loop-name l = l.under.items ≡ names_for (take l.name-index l.names) l.kept l.dropped
