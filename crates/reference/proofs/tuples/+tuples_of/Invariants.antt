use Rattle.std.proofs.Common.{length}
use Rattle.reference.proofs.tuples.+tuples_of.Given as goal

abbrev pub decreases-tuples_of : goal.decreases-tuples_of
decreases-tuples_of l = length l.word.now
