use Rattle.std.proofs.Common.{◌≡◌, map, take}
use Rattle.term_plans.specs.Makings.{track_view}
use Rattle.term_plans.specs.Planning.{tracks_in}
use Rattle.term_plans.proofs.bases.tracks_of.Given as goal

abbrev pub invariant-loop-one : goal.invariant-loop-one
invariant-loop-one l = map track_view l.tracks.items ≡ tracks_in (take l.one-index l.placed)
