use Rattle.std.proofs.Common.{◌≡◌, map, take}
use Rattle.formula_parse.specs.Views.{names_view}
use Rattle.formula_resolve.specs.Occurrences.{Binders}
use Rattle.formula_resolve.specs.Scopes.{binders_of}
use Rattle.formula_resolve.proofs.ScopeLemmas.{restored}
use Rattle.formula_resolve.proofs.scope.Scope.restore.Given as goal

abbrev pub invariant-loop-place : goal.invariant-loop-place
invariant-loop-place l = (b : Binders) → l.binders ≡ map b l.names → binders_of l.self ≡ restored (names_view (take l.place l.names)) b (binders_of l.initial.self)
