-- Words changed to a base that is another power of the same integer.
use Rattle.std.specs.Prelude.{◌≡◌, ◌⊎◌, ◌↔◌, ℕ, ◌<◌, ◌≤◌, ℤ, List, [], ◌∷◌, Result, Ok, Err}
use Rattle.digit_tuple.specs.StepResults.{Then}
use Rattle.digit_tuple.specs.Steps.{StepLog}
use Rattle.digit_tuple.specs.declared.direction.Direction.{Direction}
use Rattle.digit_tuple.specs.declared.direction.Direction.TheVariants.{Msd, Lsd}
use Rattle.digit_tuple.specs.declared.step_fault.StepFault.{StepFault}
use Rattle.digit_tuple.specs.declared.step_fault.StepFault.TheVariants.{Memory}
use Rattle.base_k.specs.Positional.{base}
use Rattle.num_system.specs.Sealed.{SystemValue, system_of}
use Rattle.num_system.specs.Tracks.{direction_of, systems_of}
use Rattle.automaton_steps.specs.Makings.{Making, DoesStep, Gives}
use Rattle.automaton_steps.specs.OneAnswers.{HasOneAnswer}
use Rattle.letter_reversal.specs.LetterReversals.{letter_reversal_step}
use Rattle.word_output.specs.LetterFunctions.{LetterFunctionValue}
use Rattle.word_output.specs.Words.{HasLetter, IsWordValue, WordValue}
use Rattle.base_change.specs.Joins.{join_step}
use Rattle.base_change.specs.Roots.{IsLeastRoot}
use Rattle.base_change.specs.Splits.{split_step}
use Rattle.base_change.specs.declared.related.CommonRoot.{CommonRoot}

-- from words in the direction to words with the least significant digit first, or back: by the step `reverse`, if the most significant
-- digit is first
abbrev pub DoesTurn : Direction → LetterFunctionValue → StepLog → Result LetterFunctionValue StepFault → StepLog → Type 0
DoesTurn Msd f = DoesStep (letter_reversal_step f)
DoesTurn Lsd f = Gives f

-- the step, or none where the power is the first one
abbrev pub DoesUnlessFirst : ℕ → Making LetterFunctionValue → LetterFunctionValue → StepLog → Result LetterFunctionValue StepFault → StepLog → Type 0
DoesUnlessFirst power making f old result new = ((power ≡ 1) × Gives f old result new) ⊎ ((1 < power) × DoesStep making old result new)

-- the letters by the steps `reverse`, `split`, `join` and `reverse`, those that are needed
abbrev pub DoesLetters : Direction → CommonRoot → Direction → LetterFunctionValue → StepLog → Result LetterFunctionValue StepFault → StepLog → Type 0
DoesLetters from common to f =
    Then (DoesTurn from f)
    (λ turned. Then (DoesUnlessFirst common.old_power (split_step common.root common.old_power turned) turned)
    (λ split. Then (DoesUnlessFirst common.new_power (join_step common.root common.new_power split) split) (DoesTurn to)))

-- the word over the system has the letters that the steps make; or memory runs out before them, or one of them is refused
abbrev pub DoesConversion : WordValue → SystemValue → CommonRoot → StepLog → Result WordValue StepFault → StepLog → Type 0
DoesConversion word system common old (Ok made) new = DoesLetters (direction_of word.systems) common system.direction word.function old (Ok made.function) new × (made.systems ≡ system ∷ [])
DoesConversion word system common old (Err fault) new =
    ((fault ≡ Memory) × (new ≡ old)) ⊎ DoesLetters (direction_of word.systems) common system.direction word.function old (Err fault) new

-- the systems are those of bases from 2 to 40 that are powers of one integer, the least of which and the exponents are these
pub record AreRelated (systems : List SystemValue) (system : SystemValue) (common : CommonRoot) : Type 0 where
  pub old_base : ℕ
  pub new_base : ℕ
  pub old_range : (2 ≤ old_base) × (old_base ≤ 40)
  pub new_range : (2 ≤ new_base) × (new_base ≤ 40)
  pub old_is : systems_of systems ≡ base old_base ∷ []
  pub new_is : system_of system ≡ base new_base
  pub root : IsLeastRoot old_base new_base common

-- the new word has at each position the letter of the old one
abbrev pub ConversionsKeepLetters : Type 0
ConversionsKeepLetters = (old new : StepLog) (word made : WordValue) (system : SystemValue) (common : CommonRoot) → IsWordValue word → IsWordValue made → AreRelated word.systems system common
    → DoesConversion word system common old (Ok made) new → (n : ℕ) (letter : ℤ) → HasLetter made (n ∷ []) letter ↔ HasLetter word (n ∷ []) letter

-- a conversion has one outcome, unless memory runs out
abbrev pub ConversionsHaveOneOutcome : Type 0
ConversionsHaveOneOutcome = (word : WordValue) (system : SystemValue) (common : CommonRoot) → 2 ≤ common.root → HasOneAnswer Memory (DoesConversion word system common)
