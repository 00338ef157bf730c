use Rattle.formula_plan.proofs.LinearLemmas.{trees_are_linear}
use Rattle.formula_plan.proofs.laws.trees_are_linear.Goals as goal

pub returns : goal.returns
returns c = trees_are_linear
