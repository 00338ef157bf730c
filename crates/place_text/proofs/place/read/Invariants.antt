use Rattle.std.proofs.Common.{◌-◌, length}
use Rattle.place_text.specs.Readings.{stage_view}
use Rattle.place_text.proofs.ReadingSteps.{IsLeft}
use Rattle.place_text.proofs.place.read.Given as goal

-- what the lexemes that are left lead to is what is read of the whole
abbrev pub invariant-loop-at : goal.invariant-loop-at
invariant-loop-at l = IsLeft l.text (stage_view l.stage) l.at

abbrev pub decreases-loop-at : goal.decreases-loop-at
decreases-loop-at l = length l.text - l.at
