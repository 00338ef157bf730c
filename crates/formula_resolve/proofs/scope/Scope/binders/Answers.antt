use Rattle.std.proofs.Common.{map, ap, ◌∙◌, arith}
use Rattle.std.proofs.lemmas.List.{take_all}
use Rattle.formula_resolve.specs.Scopes.{binders_of}
use Rattle.formula_resolve.proofs.ListLemmas.{mapped_then}
use Rattle.formula_resolve.proofs.scope.Scope.binders.Goals as goal

pub loop-name-preserved : goal.loop-name-preserved
loop-name-preserved c =
    mapped_then (binders_of c.args.self.now) c.push.new.self.items c.loop-name.binders.items c.args.names.now c.loop-name.name-index c.binder.result c.name-item.result
    c.in_ok-push.ensures.items c.loop-name.invariant c.binder.ensures c.name-item.is (omega (arith, c.loop-name-test.true))

pub returns : goal.returns
returns c = c.loop-name.invariant ∙ ap (map (binders_of c.args.self.now)) (take_all c.loop-name.name-index c.args.names.now c.loop-name-test.false)
