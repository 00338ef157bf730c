use Rattle.system_admission.proofs.AddedSteps.{names_add}
use Rattle.system_admission.proofs.laws.admissions_add_steps.Goals as goal

pub returns : goal.returns
returns c = names_add
