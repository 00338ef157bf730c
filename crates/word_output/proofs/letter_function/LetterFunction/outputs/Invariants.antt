use Rattle.std.proofs.Common.{◌≡◌, map, take}
use Rattle.word_output.specs.LetterFunctions.{letter_in}
use Rattle.word_output.proofs.letter_function.LetterFunction.outputs.Given as goal

abbrev pub invariant-loop-class : goal.invariant-loop-class
invariant-loop-class l = l.outputs.items ≡ map (letter_in l.self.letters) (take l.class-index l.self.classes)
