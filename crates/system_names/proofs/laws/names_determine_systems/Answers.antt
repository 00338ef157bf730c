use Rattle.system_names.proofs.OneSystem.{one_system}
use Rattle.system_names.proofs.laws.names_determine_systems.Goals as goal

pub returns : goal.returns
returns c = one_system
