-- The step has one outcome.
use Rattle.std.proofs.Common.{◌≡◌, ℕ, List, sym, ◌∙◌, subst}
use Rattle.digit_tuple.specs.Deterministic.{letters_of}
use Rattle.digit_tuple.specs.Letters.{IsWord, product}
use Rattle.transducer_reading.specs.Transducers.{Transducer}
use Rattle.automaton_steps.specs.Laws.{HasOneOutcome}
use Rattle.automaton_steps.proofs.StepAnswers.{step_one}
use Rattle.word_output.specs.LetterFunctions.{LetterFunctionValue, LetterFunctionsAreEqual}
use Rattle.word_transduce.specs.Transductions.{IsTransduction, transduce_step}
use Rattle.word_transduce.proofs.AlikeLemmas.{transduce_alike}

module _ (equal : LetterFunctionsAreEqual) where
  one_transduction : (t : Transducer) (f g h : LetterFunctionValue) → IsTransduction t f g → IsTransduction t f h → g ≡ h
  one_transduction t f g h one other =
      equal g h one.function other.function (one.sizes ∙ sym other.sizes)
      (λ w over.
      let here : IsWord (letters_of f.automaton) w = subst (λ (sizes : List ℕ). IsWord (product sizes) w) one.sizes over in
      one.letters w here ∙ sym (other.letters w here))

  pub transduction_outcome : (t : Transducer) (f : LetterFunctionValue) → HasOneOutcome (transduce_step t f)
  transduction_outcome t f = step_one (transduce_step t f) (transduce_alike t f) (one_transduction t f)
