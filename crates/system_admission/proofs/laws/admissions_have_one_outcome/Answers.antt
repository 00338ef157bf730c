use Rattle.system_admission.proofs.OneNames.{names_one}
use Rattle.system_admission.proofs.laws.admissions_have_one_outcome.Goals as goal

pub returns : goal.returns
returns c = names_one
