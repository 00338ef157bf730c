use Rattle.formula_truth.proofs.MeaningLemmas.{tests_matter}
use Rattle.formula_truth.proofs.laws.meanings_matter.Goals as goal

pub returns : goal.returns
returns c = tests_matter
