use Rattle.std.proofs.Common.{take}
use Rattle.formula_resolve.specs.Occurrences.{free_of}
use Rattle.formula_resolve.specs.FreeVariables.{IsKept}
use Rattle.formula_resolve.proofs.variable.free_variables.Given as goal

abbrev pub invariant-loop-occurrence : goal.invariant-loop-occurrence
invariant-loop-occurrence l = IsKept (free_of 1 (take l.occurrence-index l.occurrences)) l.variables.entries
