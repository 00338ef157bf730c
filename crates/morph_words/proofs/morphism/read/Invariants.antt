use Rattle.std.proofs.Common.{◌-◌, length}
use Rattle.morph_words.specs.Readings.{stage_view}
use Rattle.morph_words.proofs.ReadingSteps.{IsLeft}
use Rattle.morph_words.proofs.morphism.read.Given as goal

-- what the lexemes that are left lead to is what is read of the whole
abbrev pub invariant-loop-at : goal.invariant-loop-at
invariant-loop-at l = IsLeft l.text (stage_view l.stage) l.at

abbrev pub decreases-loop-at : goal.decreases-loop-at
decreases-loop-at l = length l.text - l.at
