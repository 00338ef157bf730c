use Rattle.std.proofs.Common.{◌++◌, take}
use Rattle.formula_parse.specs.Views.{addends_view}
use Rattle.formula_plan.specs.OwnNames.{own_before, HaveSame}
use Rattle.formula_plan.proofs.names.+names.Given as goal

abbrev pub invariant-add_term-loop-addend : goal.invariant-add_term-loop-addend
invariant-add_term-loop-addend l = HaveSame l.free (l.initial.free ++ own_before (addends_view (take l.addend-index l.addend-items)))
