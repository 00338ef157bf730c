-- The steps by which a transducer makes a word of an old one: `transduce`, and `reverse`.
use Rattle.std.specs.Prelude.{◌≡◌, ◌⊎◌, Result, Err}
use Rattle.digit_tuple.specs.StepResults.{Then}
use Rattle.digit_tuple.specs.Steps.{StepLog}
use Rattle.digit_tuple.specs.declared.step_fault.StepFault.{StepFault}
use Rattle.digit_tuple.specs.declared.step_fault.StepFault.TheVariants.{Memory}
use Rattle.automaton_steps.specs.Makings.{DoesStep, Gives}
use Rattle.automaton_steps.specs.OneAnswers.{HasOneAnswer}
use Rattle.letter_reversal.specs.LetterReversals.{letter_reversal_step}
use Rattle.transducer_reading.specs.Transducers.{Transducer}
use Rattle.word_output.specs.Words.{WordValue}
use Rattle.word_transduce.specs.Transductions.{transduce_step}

-- the steps on the old word's letters, and the word of what they make over the old word's systems
abbrev pub DoesLetters : Transducer → WordValue → StepLog → Result WordValue StepFault → StepLog → Type 0
DoesLetters t word =
    Then (DoesStep (transduce_step t word.function)) (λ transduced.
    Then (DoesStep (letter_reversal_step transduced)) (λ made. Gives (record { systems = word.systems; function = made })))

-- they are done, or refused; or memory runs out
abbrev pub DoesTransduce : Transducer → WordValue → StepLog → Result WordValue StepFault → StepLog → Type 0
DoesTransduce t word old result new = (result ≡ Err Memory) ⊎ DoesLetters t word old result new

-- they have one outcome, unless memory runs out
abbrev pub TransductionsHaveOneOutcome : Type 0
TransductionsHaveOneOutcome = (t : Transducer) (word : WordValue) → HasOneAnswer Memory (DoesTransduce t word)
