use Rattle.std.proofs.Common.{◌+◌, ◌*◌, length}
use Rattle.regex_build.specs.Expression.{star}
use Rattle.reference.specs.Trees.{expression}
use Rattle.reference.proofs.Cuts.{NoCut}
use Rattle.reference.proofs.Weights.{weight}
use Rattle.reference.proofs.matching.+matches.Given as goal

abbrev pub invariant-matches_follow-loop-cut : goal.invariant-matches_follow-loop-cut
invariant-matches_follow-loop-cut l = NoCut (expression l.first) (expression l.second) l.word 0 l.cut

abbrev pub invariant-matches_star-loop-cut : goal.invariant-matches_star-loop-cut
invariant-matches_star-loop-cut l = NoCut (expression l.once) (star (expression l.once)) l.word 1 l.cut

abbrev pub decreases-matches : goal.decreases-matches
decreases-matches l = (weight l.tree.now + length l.word.now) * 2

abbrev pub decreases-matches_follow : goal.decreases-matches_follow
decreases-matches_follow l = (weight l.first.now + weight l.second.now + length l.word.now) * 2 + 1

abbrev pub decreases-matches_star : goal.decreases-matches_star
decreases-matches_star l = (weight l.once.now + length l.word.now) * 2 + 1
