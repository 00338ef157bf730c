use Rattle.number_relations.proofs.multiple.+multiple_steps.Given as goal

abbrev pub decreases-multiple_steps : goal.decreases-multiple_steps
decreases-multiple_steps l = l.factor
