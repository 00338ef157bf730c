-- What an accepted command makes, and what it prints.
use Rattle.std.specs.Prelude.{◌≡◌, ℕ, ◌<◌, ◌≤◌, Bool, List, length, Option, Result, Ok, Err}
use Rattle.digit_tuple.specs.declared.steps.StepLine.{StepLine}
use Rattle.wal_outside.specs.declared.folder.Folder.{Folder}
use Rattle.command_parts.specs.declared.text_refusal.TextRefusal.TheVariants as text_refusals
use Rattle.command_parts.specs.declared.refusal.Refusal.{Refusal}
use Rattle.command_parts.specs.declared.refusal.Refusal.TheVariants as refusals
use Rattle.command_parts.specs.declared.fault.Fault.{Fault}
use Rattle.command_parts.specs.Checks.{Check, Pure, Passing, Then}
use Rattle.definitions.specs.Trees.{Entry, Ledger, entered}
use Rattle.definitions.specs.Texts.{HasText}
use Rattle.system_files.specs.SystemFiles.{Custom}

-- what a command stores: the entry that it makes, where; the lines of its steps; and the verdict, where it is about a sentence
pub record Success : Type 0 where
  pub folder : Folder
  pub name : List ℕ
  pub entry : Entry
  pub lines : List StepLine
  pub verdict : Option Bool

-- what a command says that stores nothing: the lines of its steps, and the text after them
pub record Said : Type 0 where
  pub lines : List StepLine
  pub text : List ℕ

-- an accepted command stores what it makes, or says something and stores nothing
pub data Accepted : Type 0 where
  Storing : Success → Accepted
  Saying : Said → Accepted

-- a command is accepted, or refused by a fault
abbrev pub Answer : Type 0
Answer = Result Accepted Fault

-- the ledger after an accepted command
abbrev pub after : Ledger → Accepted → Ledger
after ledger (Storing success) = entered ledger success.folder success.name success.entry
after ledger (Saying said) = ledger

-- a stored text may have 16,777,216 bytes
abbrev pub FitsFile : List ℕ → Type 0
FitsFile text = length text ≤ 16777216

-- whether the text that is to be stored fits
abbrev pub StoredAnswers : Custom → Success → Result Success Refusal → Type 0
StoredAnswers custom made (Ok success) = (success ≡ made) × ((text : List ℕ) × HasText custom made.entry text × FitsFile text)
StoredAnswers custom made (Err refusal) = (refusal ≡ refusals.Text (text_refusals.Long 16777216)) × ((text : List ℕ) × HasText custom made.entry text × (16777216 < length text))

-- the last check of each command that stores: what it makes is stored, unless its text is too long
abbrev pub stored : Custom → Success → Check Success
stored custom made = Pure (StoredAnswers custom made)

-- the checks of a command that stores what it makes, and of one that says something
abbrev pub storing : Check Success → Check Accepted
storing checks = Then checks (λ success. Passing (λ accepted. accepted ≡ Storing success))

abbrev pub saying : Check Said → Check Accepted
saying checks = Then checks (λ said. Passing (λ accepted. accepted ≡ Saying said))
