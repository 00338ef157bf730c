use Rattle.std.proofs.Common.{◌≡◌, take}
use Rattle.digit_tuple.specs.Parts.{picked}
use Rattle.pad_rename.proofs.track_sizes.sizes_at.Given as goal

abbrev pub invariant-loop-place : goal.invariant-loop-place
invariant-loop-place l = l.some.items ≡ picked (take l.place-index l.places) l.sizes
