use Rattle.system_names.proofs.UserSystems.{one_user_system}
use Rattle.system_names.proofs.laws.user_names_determine_systems.Goals as goal

pub returns : goal.returns
returns c = one_user_system
