use Rattle.std.proofs.Common.{◌≡◌, take}
use Rattle.formula_truth.specs.Given.{assigned}
use Rattle.formula_truth.proofs.given.number_of.Given as goal

abbrev pub invariant-loop-one : goal.invariant-loop-one
invariant-loop-one l = l.number ≡ assigned (take l.one-index l.given) l.name
