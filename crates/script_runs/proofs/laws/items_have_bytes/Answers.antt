use Rattle.script_runs.proofs.CountedItems.{items_have_bytes}
use Rattle.script_runs.proofs.laws.items_have_bytes.Goals as goal

pub returns : goal.returns
returns g c = items_have_bytes (g.A.Answering.language c.args._answering.now)
