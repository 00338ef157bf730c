use Rattle.std.proofs.Common.{sym, ap, ◌∙◌, take}
use Rattle.std.proofs.lemmas.List.{take_all}
use Rattle.std.specs.FinMap.{insert}
use Rattle.formula_parse.specs.Views.{names_view}
use Rattle.formula_resolve.specs.Scopes.{binders_of}
use Rattle.formula_resolve.proofs.ListLemmas.{names_more}
use Rattle.formula_resolve.proofs.ScopeLemmas.{restored, restored_more, binder_at}
use Rattle.formula_resolve.proofs.scope.Scope.restore.Goals as goal

pub loop-place-preserved : goal.loop-place-preserved
loop-place-preserved c = λ b same.
    restored_more c.loop-place.self c.bind.new.self (names_view (take c.loop-place.place c.args.names.now)) c.index-names-place.result b (binders_of c.args.self.now)
    (c.in_ok-bind.ensures ∙ ap (λ k. insert c.loop-place.self c.index-names-place.result k) (binder_at c.args.names.now c.args.binders.now c.loop-place.place c.index-names-place.result b same c.loop-place-test.true c.index-names-place.is))
    (c.loop-place.invariant b same)
    ∙ ap (λ ns. restored ns b (binders_of c.args.self.now)) (sym (names_more c.args.names.now c.loop-place.place c.index-names-place.result c.loop-place-test.true c.index-names-place.is))

pub returns : goal.returns
returns c = λ b same. c.loop-place.invariant b same ∙ ap (λ ns. restored (names_view ns) b (binders_of c.args.self.now)) (take_all c.loop-place.place c.args.names.now c.loop-place-test.false)
