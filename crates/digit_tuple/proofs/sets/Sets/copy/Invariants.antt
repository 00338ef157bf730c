use Rattle.std.proofs.Common.{◌≡◌, take}
use Rattle.digit_tuple.proofs.sets.Sets.copy.Given as goal

abbrev pub invariant-loop-set : goal.invariant-loop-set
invariant-loop-set l = l.copied ≡ take l.set-index l.self
