use Rattle.std.proofs.Common.{◌≡◌, take}
use Rattle.track_parts.proofs.track_parts.TrackParts.listed.Given as goal

abbrev pub invariant-loop-letter : goal.invariant-loop-letter
invariant-loop-letter l = l.parts.items ≡ take l.letter l.self
