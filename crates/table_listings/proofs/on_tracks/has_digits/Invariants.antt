-- The digits so far are those of their tracks.
use Rattle.std.proofs.Common.{take}
use Rattle.listings.specs.Tracks.{HasDigits}
use Rattle.table_listings.proofs.on_tracks.has_digits.Given as goal

abbrev pub invariant-loop-track : goal.invariant-loop-track
invariant-loop-track l = HasDigits (take l.track l.sets) (take l.track l.digits)
