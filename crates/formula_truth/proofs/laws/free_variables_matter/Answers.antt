use Rattle.formula_truth.proofs.AgreementLemmas.{free_variables_matter}
use Rattle.formula_truth.proofs.laws.free_variables_matter.Goals as goal

pub returns : goal.returns
returns c = free_variables_matter
