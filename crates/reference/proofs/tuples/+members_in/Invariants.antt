use Rattle.std.proofs.Common.{length}
use Rattle.reference.proofs.tuples.+members_in.Given as goal

abbrev pub decreases-members_in : goal.decreases-members_in
decreases-members_in l = length l.sets.now
