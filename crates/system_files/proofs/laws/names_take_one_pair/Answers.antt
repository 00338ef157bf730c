use Rattle.system_files.proofs.OnePair.{names_take_one_pair}
use Rattle.system_files.proofs.laws.names_take_one_pair.Goals as goal

pub returns : goal.returns
returns c = names_take_one_pair
