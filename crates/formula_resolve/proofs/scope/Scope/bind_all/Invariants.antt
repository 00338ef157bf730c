use Rattle.std.proofs.Common.{◌≡◌, take}
use Rattle.formula_parse.specs.Views.{names_view}
use Rattle.formula_resolve.specs.Occurrences.{bound_by}
use Rattle.formula_resolve.specs.Scopes.{binders_of}
use Rattle.formula_resolve.proofs.scope.Scope.bind_all.Given as goal

abbrev pub invariant-loop-name : goal.invariant-loop-name
invariant-loop-name l = binders_of l.self ≡ bound_by l.binder (names_view (take l.name-index l.names)) (binders_of l.initial.self)
