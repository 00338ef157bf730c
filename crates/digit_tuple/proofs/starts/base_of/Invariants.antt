use Rattle.std.proofs.Common.{◌≡◌, take}
use Rattle.digit_tuple.specs.Starts.{base_at}
use Rattle.digit_tuple.proofs.starts.base_of.Given as goal

abbrev pub invariant-loop-base : goal.invariant-loop-base
invariant-loop-base l = l.place ≡ base_at 0 (take l.base-index l.bases) l.index
