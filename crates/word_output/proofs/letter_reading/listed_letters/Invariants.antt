use Rattle.std.proofs.Common.{◌≡◌, take}
use Rattle.word_output.specs.ListedStates.{listed_letters}
use Rattle.word_output.proofs.letter_reading.listed_letters.Given as goal

abbrev pub invariant-loop-number : goal.invariant-loop-number
invariant-loop-number l = l.letters.items ≡ listed_letters l.outputs (take l.number l.keys)
