use Rattle.std.proofs.Common.{sym, ◌∙◌}
use Rattle.std.specs.Option.{option_copied}
use Rattle.formula_resolve.proofs.MapLemmas.{view_looked}
use Rattle.formula_resolve.proofs.ClashLemmas.{option_map_same}
use Rattle.formula_resolve.proofs.clash.FirstSystems.get.Goals as goal

pub returns : goal.returns
returns c = sym (option_map_same (option_copied c.get.result)) ∙ view_looked (λ s. s) c.self.inside.systems.entries c.args.self.now c.args.binding.now c.get.result c.self.view_is c.get.ensures.value
