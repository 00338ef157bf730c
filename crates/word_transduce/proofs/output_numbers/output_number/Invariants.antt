use Rattle.std.proofs.Common.{◌≡◌, ℕ, ◌<◌, false, get_or, None, pos}
use Rattle.word_transduce.specs.BlockMaps.{is_output}
use Rattle.word_transduce.proofs.output_numbers.output_number.Given as goal

abbrev pub invariant-loop-place : goal.invariant-loop-place
invariant-loop-place l = (k : ℕ) → k < l.place → is_output l.state l.output (get_or l.lines k (record { state = 0; letter = None; target = 0; output = pos 0 })) ≡ false
