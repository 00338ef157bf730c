use Rattle.std.proofs.Common.{◌≡◌, take}
use Rattle.word_output.specs.StateLetters.{head_letters}
use Rattle.word_output.proofs.head_letters.head_letters.Given as goal

abbrev pub invariant-loop-number : goal.invariant-loop-number
invariant-loop-number l = l.letters.items ≡ head_letters l.function (take l.number l.keys)
