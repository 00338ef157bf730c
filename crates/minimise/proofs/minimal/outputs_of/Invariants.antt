use Rattle.std.proofs.Common.{◌≡◌, map, take}
use Rattle.minimise.specs.Quotient.{key_output}
use Rattle.minimise.proofs.minimal.outputs_of.Given as goal

abbrev pub invariant-loop-place : goal.invariant-loop-place
invariant-loop-place l = l.outputs.items ≡ map (key_output l.quotient.outputs.now l.quotient.leaders.now) (take l.place l.keys)
