use Rattle.std.proofs.Common.{◌≡◌, take}
use Rattle.formula_resolve.proofs.first_mentions.key_of.Given as goal

abbrev pub invariant-loop-byte : goal.invariant-loop-byte
invariant-loop-byte l = l.key.items ≡ take l.byte-index l.byte-items
