use Rattle.std.proofs.Common.{◌≡◌, take, None}
use Rattle.formula_resolve.proofs.FreeSystemLemmas.{system_in}
use Rattle.formula_resolve.proofs.variable.first_free.Given as goal

abbrev pub invariant-loop-occurrence : goal.invariant-loop-occurrence
invariant-loop-occurrence l = system_in (take l.occurrence-index l.occurrences) l.variable ≡ None
