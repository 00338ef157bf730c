use Rattle.std.proofs.Common.{◌≡◌, length}
use Rattle.macro_expand.specs.Filling.{segments, missing}
use Rattle.macro_expand.proofs.filling.missing_place.Given as goal

-- nothing is missing in what was passed
abbrev pub invariant-loop-rest : goal.invariant-loop-rest
invariant-loop-rest l = missing l.given (segments l.rest) ≡ missing l.given (segments l.text)

abbrev pub decreases-loop-rest : goal.decreases-loop-rest
decreases-loop-rest l = length l.rest
