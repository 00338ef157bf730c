use Rattle.std.proofs.Common.{◌≡◌, map, take}
use Rattle.formula_resolve.specs.Scopes.{binders_of}
use Rattle.formula_resolve.proofs.scope.Scope.binders.Given as goal

abbrev pub invariant-loop-name : goal.invariant-loop-name
invariant-loop-name l = l.binders.items ≡ map (binders_of l.self) (take l.name-index l.names)
