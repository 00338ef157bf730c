-- The step has one outcome.
use Rattle.transducer_reading.specs.Transducers.{Transducer}
use Rattle.automaton_steps.specs.Laws.{HasOneOutcome}
use Rattle.word_output.specs.LetterFunctions.{LetterFunctionValue}
use Rattle.word_transduce.specs.Transductions.{transduce_step}

abbrev pub TransductionsHaveOneOutcome : Type 0
TransductionsHaveOneOutcome = (t : Transducer) (f : LetterFunctionValue) → HasOneOutcome (transduce_step t f)
