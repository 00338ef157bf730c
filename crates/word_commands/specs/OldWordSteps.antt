-- The checks of a command that makes a word of one that has a name: the steps that read its table, and then those that make the new word of it,
-- the definition that the name means now, and the length of the text to store.
use Rattle.std.specs.Prelude.{◌≡◌, ◌⊎◌, ℕ, List, None, Some, Result, Ok, Err}
use Rattle.digit_tuple.specs.Steps.{StepLog}
use Rattle.digit_tuple.specs.declared.step_fault.StepFault.{StepFault}
use Rattle.digit_tuple.specs.declared.step_fault.StepFault.TheVariants as steps
use Rattle.digit_tuple.specs.declared.steps.StepLine.{StepLine}
use Rattle.wal_outside.specs.declared.folder.Folder.TheVariants.{Words}
use Rattle.dfa_loading.specs.declared.loaded.Loaded.{Loaded}
use Rattle.word_output.specs.Words.{WordValue}
use Rattle.definitions.specs.Trees.{Defined, Entry, Ledger, Tree, custom_of, tree_of}
use Rattle.system_files.specs.SystemFiles.{Custom}
use Rattle.command_parts.specs.Accepting.{Success, stored}
use Rattle.command_parts.specs.Checks.{Check, Passing, Then}
use Rattle.command_parts.specs.FormulaSteps.{IsReadingStopped}
use Rattle.word_commands.specs.ImageOutcomes.{IsOldWordRead}
use Rattle.command_parts.specs.RefusingChecks.{Refusing}
use Rattle.command_parts.specs.TrackSystems.{fault_of}

-- after the steps that read the old word's table, the others make this word of it, or are refused by this fault; the lines are those of all
-- steps that were done
pub record AreOldWordSteps (admitted : StepLog) (custom : Custom) (tables : List Loaded) (old : List ℕ) (does : WordValue → StepLog → Result WordValue StepFault → StepLog → Type 0) (result : Result WordValue StepFault) (lines : List StepLine) : Type 0 where
  pub before : IsOldWordRead admitted custom tables old
  pub log : StepLog
  pub done : does before.word before.reading result log
  pub lines_are : lines ≡ log.lines

-- a step that reads the table, or one of the others, is the first to pass a limit
abbrev pub AreOldWordStepsRefused : StepLog → Custom → List Loaded → List ℕ → (WordValue → StepLog → Result WordValue StepFault → StepLog → Type 0) → StepFault → Type 0
AreOldWordStepsRefused admitted custom tables old does fault = IsReadingStopped admitted custom tables fault ⊎ ((lines : List StepLine) × AreOldWordSteps admitted custom tables old does (Err fault) lines)

-- the lines of the steps, or the number of the first one that passes a limit
abbrev pub OldWordAnswers : StepLog → Custom → List Loaded → List ℕ → (WordValue → StepLog → Result WordValue StepFault → StepLog → Type 0) → Result (List StepLine) StepFault → Type 0
OldWordAnswers admitted custom tables old does (Ok lines) = (word : WordValue) × AreOldWordSteps admitted custom tables old does (Ok word) lines
OldWordAnswers admitted custom tables old does (Err (steps.Letters step)) = AreOldWordStepsRefused admitted custom tables old does (steps.Letters step)
OldWordAnswers admitted custom tables old does (Err (steps.States step)) = AreOldWordStepsRefused admitted custom tables old does (steps.States step)
OldWordAnswers admitted custom tables old does (Err steps.Memory) = ⊥

abbrev pub old_word_done : StepLog → Custom → List Loaded → List ℕ → (WordValue → StepLog → Result WordValue StepFault → StepLog → Type 0) → Check (List StepLine)
old_word_done admitted custom tables old does = Refusing fault_of (OldWordAnswers admitted custom tables old does)

-- what is stored and printed: under the new name the definition that is made of the one that the old name means
abbrev pub old_word_success : List ℕ → (Tree → Tree) → Entry → List StepLine → Success
old_word_success name made_of entry lines = record { folder = Words; name = name; entry = Defined (made_of (tree_of entry)); lines = lines; verdict = None }

-- the checks after the steps, and with them
abbrev pub after_old_steps : Ledger → List ℕ → List ℕ → (Tree → Tree) → List StepLine → Check Success
after_old_steps ledger name old made_of lines = Then (Passing (λ entry. ledger Words old ≡ Some entry)) (λ (entry : Entry). stored (custom_of ledger) (old_word_success name made_of entry lines))

abbrev pub made_of_old : Ledger → List ℕ → List ℕ → (WordValue → StepLog → Result WordValue StepFault → StepLog → Type 0) → (Tree → Tree) → List Loaded → StepLog → Check Success
made_of_old ledger name old does made_of tables admitted = Then (old_word_done admitted (custom_of ledger) tables old does) (λ lines. after_old_steps ledger name old made_of lines)
