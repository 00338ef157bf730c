use Rattle.std.proofs.Common.{refl}
use Rattle.digit_tuple.specs.KeyHashes.{mixed}
use Rattle.digit_tuple.proofs.key_hashes.mix.Goals as goal

pub returns : goal.returns
unfolding mixed
returns c = refl
