use Rattle.std.proofs.Common.{sym, ap, ◌∙◌, take}
use Rattle.formula_parse.specs.Views.{names_view}
use Rattle.formula_resolve.specs.Occurrences.{bound_by}
use Rattle.formula_resolve.specs.Scopes.{binders_of}
use Rattle.formula_resolve.proofs.ListLemmas.{names_more}
use Rattle.formula_resolve.proofs.ScopeLemmas.{bound_more}
use Rattle.formula_resolve.proofs.scope.Scope.bind_all.Goals as goal

pub loop-name-preserved : goal.loop-name-preserved
loop-name-preserved c =
    bound_more c.loop-name.self c.bind.new.self (names_view (take c.loop-name.name-index c.args.names.now)) c.name-item.result c.args.binder (binders_of c.args.self.now) c.in_ok-bind.ensures c.loop-name.invariant
    ∙ ap (λ ns. bound_by c.args.binder ns (binders_of c.args.self.now)) (sym (names_more c.args.names.now c.loop-name.name-index c.name-item.result c.loop-name-test.true c.name-item.is))
