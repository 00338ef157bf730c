use Rattle.std.proofs.Common.{◌≡◌, take}
use Rattle.std.specs.List.{flat_map}
use Rattle.pad_rename.proofs.PartTransitionLemmas.{transitions_with}
use Rattle.pad_rename.proofs.part_reading.transitions_by_parts.Given as goal

abbrev pub invariant-loop-transition : goal.invariant-loop-transition
invariant-loop-transition l = l.transitions.items ≡ flat_map (transitions_with l.parts) (take l.transition-index l.row)
