-- Automatic words read from what files list: the letters, those without leading zeros, and those of valid words.
use Rattle.std.specs.Prelude.{◌≡◌, ℕ, ℤ, List, Result, Ok, Err}
use Rattle.std.specs.List.{AllZip}
use Rattle.digit_tuple.specs.Paddings.{in_order, strip}
use Rattle.digit_tuple.specs.StepResults.{Then}
use Rattle.digit_tuple.specs.Steps.{StepLog}
use Rattle.digit_tuple.specs.declared.direction.Direction.{Direction}
use Rattle.digit_tuple.specs.declared.step_fault.StepFault.{StepFault}
use Rattle.dfa_reading.specs.Branching.{IsLetterOfDigits}
use Rattle.dfa_reading.specs.Listed.{Listed}
use Rattle.numeration.specs.Representation.{Represents, sizes_of}
use Rattle.numeration.specs.Systems.{System}
use Rattle.num_system.specs.Sealed.{SystemValue}
use Rattle.num_system.specs.Tracks.{languages_of, systems_of, direction_of}
use Rattle.automaton_steps.specs.Makings.{DoesStep}
use Rattle.word_output.specs.LetterFunctions.{LetterFunctionValue}
use Rattle.word_output.specs.LetterReadings.{HasListedLetter, letter_read_step}
use Rattle.word_output.specs.LetterPaddings.{letter_pad_step}
use Rattle.word_output.specs.ValidLetters.{valid_letters_step}
use Rattle.word_output.specs.Words.{WordValue}

-- the numbers, and their representation without leading zeros, by which a listed path ends in a state with this letter
pub record HasListedLetterAt (direction : Direction) (ss : List System) (listed : Listed) (ns : List ℕ) (letter : ℤ) : Type 0 where
  pub tuples : List (List ℕ)
  pub word : List ℕ
  pub letters : AllZip (IsLetterOfDigits (sizes_of ss)) tuples word
  pub represents : Represents ss (in_order direction word) ns
  pub shortest : strip direction word ≡ word
  pub letter_is : HasListedLetter (sizes_of ss) listed tuples letter

-- the letters of the valid words, by the steps read, pad and valid
abbrev pub DoesWordSteps : List SystemValue → Listed → StepLog → Result LetterFunctionValue StepFault → StepLog → Type 0
DoesWordSteps systems listed =
    Then (DoesStep (letter_read_step (sizes_of (systems_of systems)) listed))
    (λ read. Then (DoesStep (letter_pad_step (direction_of systems) read)) (λ padded. DoesStep (valid_letters_step (languages_of systems) padded)))

-- the three steps make the letters of the word, or one of them is refused
abbrev pub DoesWord : List SystemValue → Listed → StepLog → Result WordValue StepFault → StepLog → Type 0
DoesWord systems listed old (Ok word) new = DoesWordSteps systems listed old (Ok word.function) new × (word.systems ≡ systems)
DoesWord systems listed old (Err fault) new = DoesWordSteps systems listed old (Err fault) new
