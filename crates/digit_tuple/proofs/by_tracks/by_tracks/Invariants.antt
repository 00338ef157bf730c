use Rattle.std.proofs.Common.{◌≡◌, take}
use Rattle.digit_tuple.specs.Decisions.{rows_in, sizes_in, IsSound}
use Rattle.digit_tuple.proofs.by_tracks.by_tracks.Given as goal

abbrev pub invariant-loop-place : goal.invariant-loop-place
invariant-loop-place l = IsSound l.parted × (sizes_in l.parted ≡ l.tracks) × (rows_in l.parted ≡ take l.place (rows_in l.rows))
