use Rattle.std.proofs.Common.{take}
use Rattle.determinise.specs.Bits.{AreSet}
use Rattle.determinise.proofs.bit_words.set_row.Given as goal

abbrev pub invariant-loop-word : goal.invariant-loop-word
invariant-loop-word l = AreSet l.initial.words (take l.word-index l.row) l.words
