use Rattle.formula_plan.proofs.FreeNameLemmas.{name_removed}
use Rattle.formula_plan.proofs.free_names.FreeNames.remove.Goals as goal

pub returns : goal.returns
returns c = name_removed c.self.inside.names c.remove.new.self c.as_str.result.now c.args.name.now c.args.self.now c.self.view_is c.as_str.ensures c.remove.ensures.updates
