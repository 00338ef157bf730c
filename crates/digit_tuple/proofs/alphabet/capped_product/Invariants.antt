use Rattle.std.proofs.Common.{◌≡◌, min, take}
use Rattle.digit_tuple.specs.Letters.{product}
use Rattle.digit_tuple.proofs.alphabet.capped_product.Given as goal

abbrev pub invariant-loop-number : goal.invariant-loop-number
invariant-loop-number l = l.count ≡ min (product (take l.number-index l.numbers)) 65537
