use Rattle.term_plans.proofs.multiples.+multiple.Given as goal

abbrev pub decreases-multiple : goal.decreases-multiple
decreases-multiple l = l.times
