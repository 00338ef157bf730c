use Rattle.std.proofs.Common.{◌≡◌, false, take}
use Rattle.formula_parse.specs.Views.{names_view}
use Rattle.formula_plan.specs.OwnNames.{has_any}
use Rattle.formula_plan.proofs.free_names.FreeNames.has_any.Given as goal

abbrev pub invariant-loop-name : goal.invariant-loop-name
invariant-loop-name l = has_any (names_view (take l.name-index l.names)) l.self ≡ false
