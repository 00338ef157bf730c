-- The step has one outcome.
use Rattle.automaton_steps.specs.Laws.{HasOneOutcome}
use Rattle.word_output.specs.LetterFunctions.{LetterFunctionValue}
use Rattle.letter_reversal.specs.LetterReversals.{letter_reversal_step}

abbrev pub LetterReversalsHaveOneOutcome : Type 0
LetterReversalsHaveOneOutcome = (f : LetterFunctionValue) → HasOneOutcome (letter_reversal_step f)
