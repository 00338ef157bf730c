use Rattle.adder_check.proofs.FileAdders.{faults_exclude}
use Rattle.adder_check.proofs.laws.faults_exclude.Goals as goal

pub returns : goal.returns
returns c = faults_exclude
