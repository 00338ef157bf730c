use Rattle.std.proofs.Common.{◌≡◌, take}
use Rattle.digit_tuple.proofs.systems.Systems.copy.Given as goal

abbrev pub invariant-loop-track : goal.invariant-loop-track
invariant-loop-track l = l.copied ≡ take l.track-index l.self
