use Rattle.std.proofs.Common.{◌≡◌, take}
use Rattle.formula_truth.specs.Given.{assigned}
use Rattle.formula_truth.proofs.given.with_number.Given as goal

abbrev pub invariant-loop-one : goal.invariant-loop-one
invariant-loop-one l = assigned l.more.items ≡ assigned (take l.one-index l.given)
