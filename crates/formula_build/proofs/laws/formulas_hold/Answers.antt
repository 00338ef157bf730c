use Rattle.formula_build.proofs.FormulaLemmas.{formulas_hold}
use Rattle.formula_build.proofs.laws.formulas_hold.Goals as goal

pub returns : goal.returns
returns c = formulas_hold
