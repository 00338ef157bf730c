use Rattle.std.proofs.Common.{◌∙◌}
use Rattle.std.specs.FinMap.{insert}
use Rattle.formula_resolve.proofs.MapLemmas.{view_inserted}
use Rattle.formula_resolve.proofs.scope.Scope.bind.Goals as goal

pub returns : goal.returns
returns c =
    view_inserted (λ k. k) c.self.inside.binders.entries c.insert.new.self.entries c.in_ok-key.key c.args.binder c.in_ok-insert.ensures.entries
    ∙ (λ i. insert (c.self.view_is i) ((c.in_ok-key.ensures.items ∙ c.as_bytes.ensures) i) c.args.binder)
