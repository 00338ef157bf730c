-- The sizes of the sets so far.
use Rattle.std.proofs.Common.{◌≡◌, take}
use Rattle.digit_tuple.specs.Sets.{sizes_of}
use Rattle.regex_build.proofs.position_table.alphabet_of.Given as goal

abbrev pub invariant-loop-set : goal.invariant-loop-set
invariant-loop-set l = l.sizes.items ≡ sizes_of (take l.set-index l.sets)
