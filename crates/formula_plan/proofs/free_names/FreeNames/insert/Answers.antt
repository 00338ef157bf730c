use Rattle.formula_plan.proofs.FreeNameLemmas.{text_added}
use Rattle.formula_plan.proofs.free_names.FreeNames.insert.Goals as goal

pub returns : goal.returns
returns c = text_added c.self.inside.names c.insert.new.self c.args.text c.args.self.now c.self.view_is c.in_ok-insert.ensures.updates
