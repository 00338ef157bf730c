use Rattle.std.proofs.Common.{◌≡◌, ◌*◌, drop, length}
use Rattle.digit_tuple.specs.KeyHashes.{hash_from}
use Rattle.digit_tuple.proofs.key_hashes.key_hash.Given as goal

abbrev pub invariant-loop-pair : goal.invariant-loop-pair
invariant-loop-pair l = hash_from (length l.key) l.key ≡ hash_from l.hash (drop (2 * l.pair) l.key)
