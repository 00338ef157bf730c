-- The letters so far are on the tracks.
use Rattle.std.proofs.Common.{take}
use Rattle.listings.specs.Tracks.{IsOnTracks}
use Rattle.table_listings.proofs.on_tracks.are_on_tracks.Given as goal

abbrev pub invariant-loop-letter : goal.invariant-loop-letter
invariant-loop-letter l = IsOnTracks l.sets (take l.letter-index l.letters)
