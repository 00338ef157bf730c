use Rattle.std.proofs.Common.{◌∙◌}
use Rattle.formula_plan.proofs.FreeNameLemmas.{has_free}
use Rattle.formula_plan.proofs.free_names.FreeNames.has.Goals as goal

pub returns : goal.returns
returns c = c.contains.ensures ∙ has_free c.self.inside.names c.args.self.now c.as_str.result.now c.args.name.now c.self.view_is c.as_str.ensures
