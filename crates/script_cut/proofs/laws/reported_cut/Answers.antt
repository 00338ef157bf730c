use Rattle.script_cut.proofs.ReportedItem.{reported_item}
use Rattle.script_cut.proofs.laws.reported_cut.Goals as goal

pub returns : goal.returns
returns c = reported_item
