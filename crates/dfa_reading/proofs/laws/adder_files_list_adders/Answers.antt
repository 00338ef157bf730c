use Rattle.dfa_reading.proofs.SystemHeaders.{adder_files_list_adders}
use Rattle.dfa_reading.proofs.laws.adder_files_list_adders.Goals as goal

pub returns : goal.returns
returns c = adder_files_list_adders
