use Rattle.std.proofs.Common.{◌∙◌}
use Rattle.std.specs.FinMap.{insert}
use Rattle.formula_resolve.proofs.MapLemmas.{view_inserted}
use Rattle.formula_resolve.proofs.clash.FirstSystems.add.Goals as goal

pub returns : goal.returns
returns c =
    view_inserted (λ s. s) c.self.inside.systems.entries c.insert.new.self.entries c.args.binding c.args.system c.in_ok-insert.ensures.entries
    ∙ (λ i. insert (c.self.view_is i) c.args.binding.items c.args.system)
