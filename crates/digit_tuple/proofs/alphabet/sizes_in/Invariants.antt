use Rattle.std.proofs.Common.{◌≡◌, map, length, take}
use Rattle.digit_tuple.proofs.alphabet.sizes_in.Given as goal

abbrev pub invariant-loop-set : goal.invariant-loop-set
invariant-loop-set l = l.sizes.items ≡ map length (take l.set-index l.sets)
