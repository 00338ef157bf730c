use Rattle.formula_plan.proofs.FormulaLemmas.{plans_mean}
use Rattle.formula_plan.proofs.laws.plans_mean.Goals as goal

pub returns : goal.returns
returns c = plans_mean
