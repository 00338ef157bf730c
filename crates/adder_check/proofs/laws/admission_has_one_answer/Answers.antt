use Rattle.adder_check.proofs.OneAdmission.{admission_one}
use Rattle.adder_check.proofs.laws.admission_has_one_answer.Goals as goal

pub returns : goal.returns
returns c = admission_one
