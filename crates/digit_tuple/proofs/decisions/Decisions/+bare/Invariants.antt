use Rattle.std.proofs.Common.{length}
use Rattle.digit_tuple.proofs.decisions.Decisions.+bare.Given as goal

abbrev pub decreases-bare : goal.decreases-bare
decreases-bare l = length l.sizes.now
