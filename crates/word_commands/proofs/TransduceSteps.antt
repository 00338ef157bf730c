-- The steps of a transducer have one outcome, and make the word of its outputs.
use Rattle.std.proofs.Common.{◌≡◌, ℕ, [], ◌∷◌, Ok, sym, ap, ◌∙◌, subst, arith}
use Rattle.digit_tuple.specs.Deterministic.{letters_of}
use Rattle.digit_tuple.specs.Letters.{IsWord, product}
use Rattle.digit_tuple.specs.StepResults.{Then}
use Rattle.digit_tuple.specs.Steps.{StepLog}
use Rattle.digit_tuple.specs.declared.step_fault.StepFault.TheVariants.{Memory}
use Rattle.numeration.specs.Representation.{sizes_of}
use Rattle.automaton_steps.specs.Makings.{DoesStep, Gives}
use Rattle.automaton_steps.proofs.ThenAnswers.{gives_one, or_memory_one, then_one}
use Rattle.letter_reversal.specs.LetterReversals.{letter_reversal_step}
use Rattle.letter_reversal.proofs.ReversedLetters.{reversal_outcome}
use Rattle.transducer_reading.specs.Transducers.{Transducer}
use Rattle.word_output.specs.LetterFunctions.{LetterFunctionValue}
use Rattle.word_output.specs.Words.{IsWordValue, WordValue}
use Rattle.word_output.proofs.LetterEquality.{letter_functions}
use Rattle.word_transduce.specs.TransducedWords.{IsTransduced, TransductionsMakeWords}
use Rattle.word_transduce.specs.Transductions.{transduce_step}
use Rattle.word_transduce.proofs.TransductionOutcomes.{transduction_outcome}
use Rattle.word_commands.specs.TransduceMakes.{IsOverMsd}
use Rattle.word_commands.specs.TransduceSteps.{DoesLetters, TransductionsHaveOneOutcome}

-- the word of these letters over the systems of another
abbrev word_of : WordValue → LetterFunctionValue → WordValue
word_of word made = record { systems = word.systems; function = made }

pub transductions_one : TransductionsHaveOneOutcome
transductions_one t word =
    or_memory_one (DoesLetters t word)
    (then_one Memory (DoesStep (transduce_step t word.function)) (λ transduced. Then (DoesStep (letter_reversal_step transduced)) (λ made. Gives (word_of word made))) (transduction_outcome letter_functions t word.function) (λ transduced.
    then_one Memory (DoesStep (letter_reversal_step transduced)) (λ made. Gives (word_of word made)) (reversal_outcome letter_functions transduced) (λ made. gives_one (word_of word made))))

module _ (makes : TransductionsMakeWords) (t : Transducer) (word : WordValue) (is : IsWordValue word) (over : IsOverMsd word) (outputs made : LetterFunctionValue) (old mid new : StepLog)
    (first : DoesStep (transduce_step t word.function) old (Ok outputs) mid) (second : DoesStep (letter_reversal_step outputs) mid (Ok made) new) where
  -- there are as many letters as the base says
  digits_are : letters_of outputs.automaton ≡ over.k
  digits_are =
      let sizes : outputs.automaton.sizes ≡ over.k ∷ [] = first.step.made_is.sizes ∙ is.sizes ∙ ap sizes_of over.over.system in
      ap product sizes ∙ (let one : product (over.k ∷ []) ≡ over.k = omega arith in one)

  pub is_transduced : IsTransduced t word (record { systems = word.systems; function = made })
  is_transduced =
      makes t over.k word outputs made over.over.base_is.least is over.over.system over.direction first.step.made_is second.step.made_is.function (second.step.made_is.sizes ∙ first.step.made_is.sizes)
      (λ w here. second.step.made_is.letters w (subst (λ (n : ℕ). IsWord n w) (sym digits_are) here))
