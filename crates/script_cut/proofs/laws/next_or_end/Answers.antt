use Rattle.script_cut.proofs.FoundItems.{next_or_end}
use Rattle.script_cut.proofs.laws.next_or_end.Goals as goal

pub returns : goal.returns
returns c = next_or_end
