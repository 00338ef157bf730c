use Rattle.system_admission.proofs.OneNames.{admitted_are_meant}
use Rattle.system_admission.proofs.laws.admitted_systems_are_meant.Goals as goal

pub returns : goal.returns
returns c = admitted_are_meant
