-- What a file lists is read as a word in one way, or refused in one.
use Rattle.std.proofs.Common.{◌≡◌, inl, inr, List, Ok, Err, sym, ap, ◌∙◌}
use Rattle.digit_tuple.specs.StepResults.{Then}
use Rattle.digit_tuple.specs.Steps.{StepLog}
use Rattle.digit_tuple.specs.declared.step_fault.StepFault.{StepFault}
use Rattle.digit_tuple.specs.declared.step_fault.StepFault.TheVariants.{Memory}
use Rattle.dfa_reading.specs.Listed.{Listed}
use Rattle.numeration.specs.Representation.{sizes_of}
use Rattle.num_system.specs.Sealed.{SystemValue}
use Rattle.num_system.specs.Tracks.{languages_of, systems_of, direction_of}
use Rattle.automaton_steps.specs.Makings.{DoesStep}
use Rattle.automaton_steps.specs.OneAnswers.{AreOneAnswer, HasOneAnswer}
use Rattle.automaton_steps.proofs.AnswerCases.{memory_alone, one_value, raised_one}
use Rattle.automaton_steps.proofs.ThenAnswers.{then_one}
use Rattle.word_output.specs.Laws.{WordReadingsHaveOneOutcome}
use Rattle.word_output.specs.LetterFunctions.{LetterFunctionsAreEqual}
use Rattle.word_output.specs.LetterPaddings.{letter_pad_step}
use Rattle.word_output.specs.LetterReadings.{letter_read_step}
use Rattle.word_output.specs.ValidLetters.{valid_letters_step}
use Rattle.word_output.specs.WordReadings.{DoesWord, DoesWordSteps}
use Rattle.word_output.specs.Words.{WordValue}
use Rattle.word_output.proofs.StepOutcomes.{pad_outcome, read_outcome, valid_outcome}

module _ (equal : LetterFunctionsAreEqual) (systems : List SystemValue) (listed : Listed) where
  -- the three steps have one answer
  steps_one : HasOneAnswer Memory (DoesWordSteps systems listed)
  steps_one =
      then_one Memory (DoesStep (letter_read_step (sizes_of (systems_of systems)) listed))
      (λ read. Then (DoesStep (letter_pad_step (direction_of systems) read)) (λ padded. DoesStep (valid_letters_step (languages_of systems) padded))) (read_outcome equal (sizes_of (systems_of systems)) listed)
      (λ read. then_one Memory (DoesStep (letter_pad_step (direction_of systems) read)) (λ padded. DoesStep (valid_letters_step (languages_of systems) padded)) (pad_outcome equal (direction_of systems) read)
      (λ padded. valid_outcome equal (languages_of systems) padded))

  module _ (old new next : StepLog) where
    -- two words are one
    one_word : (v u : WordValue) → DoesWord systems listed old (Ok v) new → DoesWord systems listed old (Ok u) next → AreOneAnswer Memory (Ok v) (Ok u) new next
    one_word v u a b =
        let same = one_value Memory new next v.function u.function (steps_one old new next (Ok v.function) (Ok u.function) a.0 b.0) in
        let tracks = a.1 ∙ sym b.1 in
        inl (ap Ok (let words : v ≡ u = λ i. record { systems = tracks i; function = same.0 i } in words), same.1)

    -- beside a word no step is refused
    memory_only : (v : WordValue) (fault : StepFault) → DoesWord systems listed old (Ok v) new → DoesWord systems listed old (Err fault) next → fault ≡ Memory
    memory_only v fault made failed = memory_alone Memory new next v.function fault (steps_one old new next (Ok v.function) (Err fault) made.0 failed)

  pub one_reading : HasOneAnswer Memory (DoesWord systems listed)
  one_reading old new next (Ok v) (Ok u) a b = one_word old new next v u a b
  one_reading old new next (Ok v) (Err other) a b = inr (inr (ap Err (memory_only old new next v other a b)))
  one_reading old new next (Err fault) (Ok u) a b = inr (inl (ap Err (memory_only old next new u fault b a)))
  one_reading old new next (Err fault) (Err other) a b = raised_one (λ (f : StepFault). f) Memory new next fault other (steps_one old new next (Err fault) (Err other) a b)

pub one_readings : LetterFunctionsAreEqual → WordReadingsHaveOneOutcome
one_readings = one_reading
