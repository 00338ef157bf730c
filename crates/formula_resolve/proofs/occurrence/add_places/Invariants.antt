use Rattle.std.proofs.Common.{◌≡◌, ◌++◌, take}
use Rattle.formula_parse.specs.Views.{terms_view}
use Rattle.formula_resolve.specs.Occurrences.{place_occurrences}
use Rattle.formula_resolve.specs.Scopes.{binders_of}
use Rattle.formula_resolve.proofs.occurrence.add_places.Given as goal

abbrev pub invariant-loop-place : goal.invariant-loop-place
invariant-loop-place l = l.found.items ≡ l.initial.found.items ++ place_occurrences l.tracks (binders_of l.scope) (terms_view (take l.place l.places))
