-- From the steps that make a word of an old one, and the text of what they make, to what the checks of a command make of it.
use Rattle.std.proofs.Common.{◌≡◌, ℕ, Bool, List, Some, Result, Ok, Err, inl, inr, refl, sym, subst}
use Rattle.wal_outside.specs.Places.{Place}
use Rattle.wal_outside.specs.declared.folder.Folder.TheVariants.{Words}
use Rattle.digit_tuple.specs.Steps.{StepLog}
use Rattle.digit_tuple.specs.declared.step_fault.StepFault.{StepFault}
use Rattle.digit_tuple.specs.declared.step_fault.StepFault.TheVariants as step_faults
use Rattle.digit_tuple.specs.declared.steps.StepLine.{StepLine}
use Rattle.dfa_loading.specs.declared.loaded.Loaded.{Loaded}
use Rattle.word_output.specs.Words.{WordValue}
use Rattle.definitions.specs.Texts.{HasTreeText}
use Rattle.definitions.specs.Trees.{Entry, Ledger, Tree, custom_of, tree_of}
use Rattle.system_files.specs.SystemFiles.{Custom}
use Rattle.command_parts.specs.declared.fault.Fault.{Fault}
use Rattle.command_parts.specs.declared.file_change.Made.{Made}
use Rattle.word_commands.specs.declared.old_word.OldWord.{OldWord}
use Rattle.command_parts.specs.Accepting.{stored}
use Rattle.command_parts.specs.Checks.{Fails, Passing}
use Rattle.word_commands.specs.OldWordMakes.{IsMadeOfOld, IsOldRead, before_of}
use Rattle.word_commands.specs.OldWordSteps.{AreOldWordSteps, AreOldWordStepsRefused, after_old_steps, made_of_old, old_word_done, old_word_success}
use Rattle.command_parts.specs.FileChanges.{Makes}
use Rattle.command_parts.specs.TrackSystems.{fault_of}
use Rattle.command_parts.specs.WordPrinting.{Keeps, named_text}
use Rattle.command_parts.specs.FormulaSteps.{IsUnread}
use Rattle.command_parts.proofs.CheckSteps.{fails_first, makes_after}
use Rattle.command_parts.proofs.StoringTexts.{kept_text}

module _ (admitted : StepLog) (custom : Custom) (tables : List Loaded) (old : List ℕ) (does : WordValue → StepLog → Result WordValue StepFault → StepLog → Type 0) where
  -- a step passes a limit
  unmade : (fault : StepFault) → AreOldWordStepsRefused admitted custom tables old does fault → Fails (old_word_done admitted custom tables old does) (fault_of fault)
  unmade (step_faults.Letters step) refused = (step_faults.Letters step, refl, refused)
  unmade (step_faults.States step) refused = (step_faults.States step, refl, refused)
  unmade step_faults.Memory refused = tt

  -- one that reads the table does, or memory runs out there
  pub unread : (fault : StepFault) → IsUnread admitted custom tables fault → Fails (old_word_done admitted custom tables old does) (fault_of fault)
  unread fault (inl memory) = subst (λ (f : StepFault). Fails (old_word_done admitted custom tables old does) (fault_of f)) (sym memory) tt
  unread fault (inr stopped) = unmade fault (inl stopped)

-- the table of the old word is read, and the steps after it make a word of what it makes
module _ {admitted reading : StepLog} {custom : Custom} {old : OldWord} {word : WordValue} (is : IsOldRead admitted custom old word reading) (does : WordValue → StepLog → Result WordValue StepFault → StepLog → Type 0) (log : StepLog) where
  abbrev pub made_of_read : (made : WordValue) → does word reading (Ok made) log → IsMadeOfOld admitted custom old does made log.lines
  made_of_read made done = record { made = record { before = before_of is; log = log; done = done; lines_are = refl }; has = is.has }

  -- or are refused
  pub unmade_of_read : (fault : StepFault) → does word reading (Err fault) log → Fails (old_word_done admitted custom old.mentioned.tables.items old.name does) (fault_of fault)
  unmade_of_read fault done = unmade admitted custom old.mentioned.tables.items old.name does fault (inr (log.lines, record { before = before_of is; log = log; done = done; lines_are = refl }))

module _ (ledger : Ledger) (name old : List ℕ) (does : WordValue → StepLog → Result WordValue StepFault → StepLog → Type 0) (made_of : Tree → Tree) (tables : List Loaded) (admitted : StepLog) where
  -- the steps are refused
  pub old_stopped : (fault : Fault) → Fails (old_word_done admitted (custom_of ledger) tables old does) fault → Fails (made_of_old ledger name old does made_of tables admitted) fault
  old_stopped fault refused = fails_first (old_word_done admitted (custom_of ledger) tables old does) (λ lines. after_old_steps ledger name old made_of lines) fault refused

  -- they are done, and the text is stored, or it is too long
  module _ (word : WordValue) (lines : List StepLine) (done : AreOldWordSteps admitted (custom_of ledger) tables old does (Ok word) lines) (entry : Entry) (there : ledger Words old ≡ Some entry)
      (names : List (List ℕ)) (has : HasTreeText (custom_of ledger) (made_of (tree_of entry)) (named_text names word)) where
    by_text : (shown : Bool) (result : Result Made Fault) → Keeps names word shown lines result → Makes (custom_of ledger) (stored (custom_of ledger) (old_word_success name made_of entry lines)) shown result
    by_text shown result keeps = kept_text (custom_of ledger) (old_word_success name made_of entry lines) names word shown result refl has keeps

    pub old_stored : (shown : Bool) (result : Result Made Fault) → Keeps names word shown lines result → Makes (custom_of ledger) (made_of_old ledger name old does made_of tables admitted) shown result
    old_stored shown result keeps =
        makes_after (custom_of ledger) (old_word_done admitted (custom_of ledger) tables old does) (λ ls. after_old_steps ledger name old made_of ls) lines shown result (word, done)
        (makes_after (custom_of ledger) (Passing (λ e. ledger Words old ≡ Some e)) (λ e. stored (custom_of ledger) (old_word_success name made_of e lines)) entry shown result there (by_text shown result keeps))

  -- no file is read
  pub no_old_read : (place : Place) → (made_of_old ledger name old does made_of tables admitted).reads place → ⊥
  no_old_read place (inl read) = read
  no_old_read place (inr (lines, made, inl read)) = read
  no_old_read place (inr (lines, made, inr (entry, there, read))) = read
