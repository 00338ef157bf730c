use Rattle.std.proofs.Common.{◌≡◌, ◌==◌, ◌++◌, filter, get_or, take}
use Rattle.track_parts.proofs.track_parts.TrackParts.add_having.Given as goal

abbrev pub invariant-loop-letter : goal.invariant-loop-letter
invariant-loop-letter l = l.letters.items ≡ l.fn.letters.items ++ filter (λ letter. get_or l.self letter 0 == l.part) (take l.letter-index l.some)
