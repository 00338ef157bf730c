use Rattle.std.proofs.Common.{◌≡◌, map, take}
use Rattle.digit_tuple.specs.declared.systems.SystemTrack.{SystemTrack}
use Rattle.digit_tuple.proofs.alphabet.digit_counts.Given as goal

abbrev pub invariant-loop-track : goal.invariant-loop-track
invariant-loop-track l = l.sizes.items ≡ map (λ (track : SystemTrack). track.digits) (take l.track-index l.systems)
