use Rattle.std.proofs.Common.{◌++◌, map, string_bytes}
use Rattle.formula_plan.specs.OwnNames.{HaveSame}
use Rattle.formula_plan.proofs.free_names.FreeNames.add_all.Given as goal

abbrev pub invariant-loop-text : goal.invariant-loop-text
invariant-loop-text l = HaveSame l.self (l.initial.self ++ map string_bytes l.yielded)
