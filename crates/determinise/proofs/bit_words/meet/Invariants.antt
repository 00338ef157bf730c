use Rattle.std.proofs.Common.{ℕ, ◌<◌}
use Rattle.determinise.specs.Bits.{HasBit}
use Rattle.determinise.proofs.bit_words.meet.Given as goal

abbrev pub invariant-loop-place : goal.invariant-loop-place
invariant-loop-place l = (place bit : ℕ) → place < l.place → HasBit l.words place bit → HasBit l.others place bit → ⊥
