use Rattle.word_output.proofs.StateLetterLemmas.{AreClassesTo}
use Rattle.word_output.proofs.state_letters.classes_of.Given as goal

abbrev pub invariant-loop-letter : goal.invariant-loop-letter
invariant-loop-letter l = AreClassesTo l.letters l.found l.classes.items l.letter-index
