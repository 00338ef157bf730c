use Rattle.system_names.proofs.UserSystems.{none_is_built_in}
use Rattle.system_names.proofs.laws.user_names_are_not_built_in.Goals as goal

pub returns : goal.returns
returns c = none_is_built_in
