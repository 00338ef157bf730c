use Rattle.system_files.proofs.OneSystem.{names_mean_one_system}
use Rattle.system_files.proofs.laws.names_mean_one_system.Goals as goal

pub returns : goal.returns
returns c = names_mean_one_system
