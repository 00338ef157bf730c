use Rattle.std.proofs.Common.{◌≡◌, take}
use Rattle.digit_tuple.specs.Systems.{digit_sets}
use Rattle.digit_tuple.proofs.systems.Systems.digit_sets.Given as goal

abbrev pub invariant-loop-track : goal.invariant-loop-track
invariant-loop-track l = l.sets ≡ digit_sets (take l.track-index l.self)
