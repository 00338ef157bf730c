-- From the word of a transducer's outputs to what the checks after the systems of the old word make.
use Rattle.std.proofs.Common.{ℕ, Bool, true, List, [], ◌∷◌, Result, Err, refl}
use Rattle.std.specs.Int.{w32}
use Rattle.std.specs.List.{All}
use Rattle.std.specs.Prelude.{FitsSigned}
use Rattle.wal_outside.specs.Files.{Files}
use Rattle.digit_tuple.specs.Steps.{StepLog}
use Rattle.digit_tuple.specs.declared.steps.StepLine.{StepLine}
use Rattle.word_output.specs.Words.{WordValue}
use Rattle.definitions.specs.Texts.{Stores}
use Rattle.definitions.specs.Trees.{Ledger, Transduced, Tree, custom_of}
use Rattle.command_parts.specs.declared.fault.Fault.{Fault}
use Rattle.command_parts.specs.declared.file_change.Made.{Made}
use Rattle.word_commands.specs.declared.transduce.ReadTransducer.{ReadTransducer}
use Rattle.word_commands.specs.BaseWords.{name_of_base, named_base}
use Rattle.command_parts.specs.Checks.{Fails}
use Rattle.word_commands.specs.OldWordMakes.{AreTablesOfOld}
use Rattle.word_commands.specs.OldWordSteps.{old_word_done}
use Rattle.command_parts.specs.FileChanges.{Makes}
use Rattle.word_commands.specs.TransduceMakes.{HasMsdBase, IsTransducedOld, head_of}
use Rattle.word_commands.specs.TransduceOutcomes.{after_transduced_systems}
use Rattle.word_commands.specs.TransduceSteps.{DoesTransduce}
use Rattle.command_parts.specs.WordPrinting.{Keeps}
use Rattle.word_commands.proofs.OldWordChains.{old_stopped, old_stored}
use Rattle.command_parts.proofs.TableMeanings.{HasLettersAs}
use Rattle.word_commands.proofs.TransduceChains.{base_passed}
use Rattle.word_commands.proofs.TransduceTexts.{transduced_entry, transduced_text}

module _ (ledger : Ledger) (read : ReadTransducer) (over : HasMsdBase read) (word mapping : List ℕ) (admitted : StepLog) where
  abbrev made_of : Tree → Tree
  made_of = λ tree. Transduced (named_base over.0) read.transducer tree

  -- the steps are refused
  pub transduced_unmade : (fault : Fault) → Fails (old_word_done admitted (custom_of ledger) read.old.mentioned.tables.items read.old.name (DoesTransduce read.transducer)) fault
      → Fails (after_transduced_systems ledger (head_of word mapping read) read.transducer read.old.mentioned.tables.items admitted) fault
  transduced_unmade fault refused =
      base_passed ledger (head_of word mapping read) read.transducer read.old.mentioned.tables.items admitted over.0 true (Err fault) over.1
      (old_stopped ledger word read.old.name (DoesTransduce read.transducer) made_of read.old.mentioned.tables.items admitted fault refused)

  -- the text is stored, or it is too long
  pub transduced_kept : (files : Files) → Stores ledger files → AreTablesOfOld read.old files → (made : WordValue) (lines : List StepLine) → IsTransducedOld admitted (custom_of ledger) read made lines → All (λ letter. FitsSigned w32 letter) made.function.letters
      → (shown : Bool) (result : Result Made Fault) → Keeps (name_of_base over.0 ∷ []) made shown lines result → Makes (custom_of ledger) (after_transduced_systems ledger (head_of word mapping read) read.transducer read.old.mentioned.tables.items admitted) shown result
  transduced_kept files stores listed made lines is fits shown result keeps =
      let entry : HasLettersAs ledger read.old.name is.of_old.made.before.word = transduced_entry read files listed over (custom_of ledger) admitted made lines is ledger stores refl in
      base_passed ledger (head_of word mapping read) read.transducer read.old.mentioned.tables.items admitted over.0 shown result over.1
      (old_stored ledger word read.old.name (DoesTransduce read.transducer) made_of read.old.mentioned.tables.items admitted made lines is.of_old.made entry.entry entry.there (name_of_base over.0 ∷ [])
      (transduced_text read files listed over (custom_of ledger) admitted made lines is ledger stores refl fits) shown result keeps)
