use Rattle.std.proofs.Common.{◌≡◌, min, take}
use Rattle.digit_tuple.specs.Letters.{product}
use Rattle.digit_tuple.specs.Sets.{sizes_of}
use Rattle.regex_build.proofs.build.tuple_count.Given as goal

abbrev pub invariant-loop-set : goal.invariant-loop-set
invariant-loop-set l = l.count ≡ min (product (take l.set-index (sizes_of l.sets))) 65537
