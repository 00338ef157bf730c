use Rattle.std.proofs.Common.{◌≡◌, map, take}
use Rattle.word_output.specs.LetterFunctions.{letter_in}
use Rattle.letter_reversal.proofs.letter_reversal.class_letters.Given as goal

abbrev pub invariant-loop-class : goal.invariant-loop-class
invariant-loop-class l = l.found.items ≡ map (letter_in l.letters) (take l.class-index l.classes)
