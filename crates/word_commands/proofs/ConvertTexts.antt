-- A word over another base has the letters of its definition, so its text is that of the definition that is stored.
use Rattle.std.proofs.Common.{◌≡◌, ℕ, Bool, true, List, [], ◌∷◌, None, Result, Err, inl, refl, sym, ap, ◌∙◌, subst}
use Rattle.std.specs.Int.{w32}
use Rattle.std.specs.List.{All}
use Rattle.std.specs.Prelude.{FitsSigned}
use Rattle.wal_outside.specs.Files.{Files}
use Rattle.digit_tuple.specs.Steps.{StepLog}
use Rattle.digit_tuple.specs.declared.steps.StepLine.{StepLine}
use Rattle.base_k.specs.Positional.{base}
use Rattle.dfa_loading.specs.Headers.{headers_of}
use Rattle.num_system.specs.Tracks.{direction_of, systems_of}
use Rattle.system_names.specs.declared.system_kind.SystemKind.TheVariants.{Base}
use Rattle.word_output.specs.Words.{WordValue}
use Rattle.definitions.proofs.WordValueTexts.{IsWordNamed, converted_word_text}
use Rattle.definitions.specs.Texts.{HasTreeText, Stores}
use Rattle.definitions.specs.Trees.{Converted, Ledger, Tree, custom_of, tree_of}
use Rattle.system_files.specs.SystemFiles.{Custom}
use Rattle.word_commands.specs.declared.base_system.BaseSystem.{BaseSystem}
use Rattle.word_commands.specs.declared.convert.Change.{Change}
use Rattle.word_commands.specs.declared.convert.ReadConvert.{ReadConvert}
use Rattle.command_parts.specs.declared.fault.Fault.{Fault}
use Rattle.word_commands.specs.declared.old_word.OldWord.{OldWord}
use Rattle.command_parts.specs.declared.file_change.Made.{Made}
use Rattle.word_commands.specs.BaseWords.{IsBaseOf, named_base}
use Rattle.command_parts.specs.Checks.{Fails}
use Rattle.word_commands.specs.ConvertMakes.{IsConverted, head_of}
use Rattle.word_commands.specs.ConvertOutcomes.{IsChange, after_convert_systems}
use Rattle.word_commands.specs.ConvertSteps.{DoesConvert}
use Rattle.word_commands.specs.ImageOutcomes.{IsOldWordRead}
use Rattle.word_commands.specs.OldWordMakes.{AreTablesOfOld}
use Rattle.word_commands.specs.OldWordSteps.{old_word_done}
use Rattle.command_parts.specs.FileChanges.{Makes}
use Rattle.command_parts.specs.WordPrinting.{Keeps, HaveNames, named_text}
use Rattle.word_commands.proofs.BaseTexts.{one_name}
use Rattle.word_commands.proofs.BaseWordLemmas.{base_text}
use Rattle.word_commands.proofs.ConvertChains.{bases_related}
use Rattle.word_commands.proofs.OldWordChains.{old_stopped, old_stored}
use Rattle.word_commands.proofs.OldWords.{old_means}
use Rattle.command_parts.proofs.TableMeanings.{HasLettersAs}

module _ (old : OldWord) (files : Files) (listed : AreTablesOfOld old files) (custom : Custom) (admitted : StepLog) (over : BaseSystem) (system : List ℕ) (change : Change) (change_is : IsChange over system change)
    (word : WordValue) (lines : List StepLine) (is : IsConverted admitted custom old change word lines) where
  abbrev before : IsOldWordRead admitted custom old.mentioned.tables.items old.name
  before = is.of_old.made.before

  new_base : systems_of word.systems ≡ base change.system.base ∷ []
  new_base = let done = is.of_old.made.done in ap systems_of done.2.1 ∙ ap (λ s. s ∷ []) done.1.base_is

  new_direction : direction_of word.systems ≡ change.system.direction
  new_direction = let done = is.of_old.made.done in ap direction_of done.2.1 ∙ done.1.direction_is

  -- the new name is that of the word's system
  pub convert_names : HaveNames (system ∷ []) word.systems
  convert_names = one_name change.system.base system word.systems change_is.name_is.0 new_base

  module _ (ledger : Ledger) (stores : Stores ledger files) (same : custom_of ledger ≡ custom) where
    -- what is under the old name
    pub convert_entry : HasLettersAs ledger old.name before.word
    convert_entry =
        old_means old.name old.mentioned.tables.items files listed before.systems before.sealed custom before.meant is.of_old.has before.reads admitted before.reading before.read ledger stores same before.word before.word_is

    -- the text is that of its definition over the new base
    pub convert_text : All (λ letter. FitsSigned w32 letter) word.function.letters → HasTreeText (custom_of ledger) (Converted change.system.direction (named_base change.system) (tree_of convert_entry.entry)) (named_text (system ∷ []) word)
    convert_text fits =
        let named : IsWordNamed (custom_of ledger) change.system.direction (named_base change.system ∷ []) word = record {
          word = is.word_is;
          fits = fits;
          are = (inl (Base change.system.base, (change_is.name_is.0, refl), refl), tt);
          direction = new_direction;
          systems_are = sym new_base;
        } in
        subst (HasTreeText (custom_of ledger) (Converted change.system.direction (named_base change.system) (tree_of convert_entry.entry))) (sym (base_text change.system system word change_is.name_is.1 new_base))
        (converted_word_text (custom_of ledger) change.system.direction (named_base change.system) (tree_of convert_entry.entry) word named
        (λ n letter. (λ has. (convert_entry.same (n ∷ []) letter).0 ((is.letters n letter).0 has), λ has. (is.letters n letter).1 ((convert_entry.same (n ∷ []) letter).1 has))))

module _ (ledger : Ledger) (read : ReadConvert) (over : BaseSystem) (over_is : IsBaseOf None (headers_of read.old.mentioned.tables.items) read.old.name over) (change : Change) (change_is : IsChange over read.system change) (name : List ℕ) (admitted : StepLog) where
  abbrev made_of : Tree → Tree
  made_of = λ tree. Converted change.system.direction (named_base change.system) tree

  -- the steps are refused
  pub convert_unmade : (fault : Fault) → Fails (old_word_done admitted (custom_of ledger) read.old.mentioned.tables.items read.old.name (DoesConvert change)) fault → Fails (after_convert_systems ledger (head_of name read) read.old.mentioned.tables.items admitted) fault
  convert_unmade fault refused =
      bases_related ledger (head_of name read) read.old.mentioned.tables.items admitted over over_is change change_is true (Err fault)
      (old_stopped ledger name read.old.name (DoesConvert change) made_of read.old.mentioned.tables.items admitted fault refused)

  -- the text is stored, or it is too long
  pub convert_kept : (files : Files) → Stores ledger files → AreTablesOfOld read.old files → (word : WordValue) (lines : List StepLine) → IsConverted admitted (custom_of ledger) read.old change word lines → All (λ letter. FitsSigned w32 letter) word.function.letters
      → (shown : Bool) (result : Result Made Fault) → Keeps (read.system ∷ []) word shown lines result → Makes (custom_of ledger) (after_convert_systems ledger (head_of name read) read.old.mentioned.tables.items admitted) shown result
  convert_kept files stores listed word lines is fits shown result keeps =
      let entry : HasLettersAs ledger read.old.name is.of_old.made.before.word = convert_entry read.old files listed (custom_of ledger) admitted over read.system change change_is word lines is ledger stores refl in
      bases_related ledger (head_of name read) read.old.mentioned.tables.items admitted over over_is change change_is shown result
      (old_stored ledger name read.old.name (DoesConvert change) made_of read.old.mentioned.tables.items admitted word lines is.of_old.made entry.entry entry.there (read.system ∷ [])
      (convert_text read.old files listed (custom_of ledger) admitted over read.system change change_is word lines is ledger stores refl fits) shown result keeps)
