-- The digits so far are found.
use Rattle.std.proofs.Common.{take}
use Rattle.listings.specs.Tracks.{AreAt}
use Rattle.listings.proofs.tracks.places_of.Given as goal

abbrev pub invariant-loop-track : goal.invariant-loop-track
invariant-loop-track l = AreAt (take l.track l.sets) (take l.track l.digits) l.places.items
