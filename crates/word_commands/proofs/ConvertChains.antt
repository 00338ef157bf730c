-- From what each part of the code makes of a word that is wanted over another base to what all checks of its command make.
use Rattle.std.proofs.Common.{◌≡◌, ℕ, Bool, List, [], None, Result, Ok, Err, inl, inr, sym, ap, ◌∙◌, subst}
use Rattle.wal_outside.specs.Files.{Files}
use Rattle.wal_outside.specs.Places.{Place}
use Rattle.wal_outside.specs.declared.folder.Folder.TheVariants.{Words}
use Rattle.digit_tuple.specs.Steps.{StepLog}
use Rattle.command_head.specs.Breaks.{HasHead}
use Rattle.command_head.specs.Grammar.{DerivesConvert}
use Rattle.command_head.specs.HeadViews.{convert_view}
use Rattle.command_head.specs.Heads.{ConvertHead}
use Rattle.command_head.specs.declared.fault.HeadFault.{HeadFault}
use Rattle.command_head.specs.declared.head.ConvertParts.{ConvertParts}
use Rattle.dfa_loading.specs.Headers.{headers_of}
use Rattle.dfa_loading.specs.Loading.{AreListedBy}
use Rattle.dfa_loading.specs.declared.loaded.Loaded.{Loaded}
use Rattle.formula_resolve.specs.FirstMentions.{first_files, first_systems}
use Rattle.definitions.proofs.CustomTexts.{found_custom}
use Rattle.definitions.specs.Texts.{Stores}
use Rattle.definitions.specs.Trees.{Converted, Ledger, ledger_of, custom_of}
use Rattle.system_files.specs.SystemFiles.{Custom}
use Rattle.word_commands.specs.declared.base_system.BaseSystem.{BaseSystem}
use Rattle.word_commands.specs.declared.convert.Change.{Change}
use Rattle.word_commands.specs.declared.convert.ReadConvert.{ReadConvert}
use Rattle.command_parts.specs.declared.fault.Fault.{Fault}
use Rattle.word_commands.specs.declared.old_word.OldWord.{OldWord}
use Rattle.command_parts.specs.declared.file_change.Made.{Made}
use Rattle.command_parts.specs.declared.file_change.FileChange.{FileChange}
use Rattle.command_parts.specs.Accepting.{Success}
use Rattle.word_commands.specs.BaseWords.{IsBaseOf, named_base, over_base}
use Rattle.command_parts.specs.Checks.{Pure, Fails}
use Rattle.word_commands.specs.ConvertMakes.{MakesAfterConvertSystems, head_of}
use Rattle.word_commands.specs.ConvertOutcomes.{IsChange, UnknownBaseAnswers, after_change, after_convert_head, after_convert_systems, after_convert_table, after_new_name, after_old_base, convert_checks, no_unknown_base, related_base}
use Rattle.word_commands.specs.ConvertSteps.{DoesConvert}
use Rattle.command_parts.specs.FileChecks.{FilesAnswers, files_loaded}
use Rattle.command_parts.specs.HeadAnswers.{HeadAnswers, fault_of_head}
use Rattle.word_commands.specs.ImageOutcomes.{old_mentions}
use Rattle.word_commands.specs.OldWordMakes.{IsLoadedOld, IsOldAt}
use Rattle.command_parts.specs.FileChanges.{Makes, ChangesFile}
use Rattle.command_parts.specs.SystemChecks.{SystemsAnswers, systems_known}
use Rattle.command_parts.proofs.CheckSteps.{fails_first, fails_after, makes_after, changes_after}
use Rattle.command_parts.proofs.StoredLedgers.{files_store}
use Rattle.command_parts.proofs.FilesElsewhere.{listed_elsewhere}
use Rattle.command_parts.proofs.HeadSteps.{head_unread}
use Rattle.word_commands.proofs.OldWordChains.{no_old_read}
use Rattle.command_parts.proofs.StoreReads.{IsOwn, own_made}
use Rattle.command_parts.proofs.TextReads.{with_bases}

-- where the head breaks the grammar
pub convert_broken : (limit : ℕ) (ledger : Ledger) (text : List ℕ) (fault : HeadFault) → HasHead {X = ConvertParts} DerivesConvert convert_view text (Err fault) → Fails (convert_checks limit ledger text) (fault_of_head fault)
convert_broken limit ledger text fault breaks = fails_first (Pure (HeadAnswers DerivesConvert text)) (λ head. after_convert_head limit ledger head) (fault_of_head fault) (head_unread DerivesConvert convert_view text fault breaks)

-- what is accepted is among words, under the name of the head
record IsConvertAt (head : ConvertHead) (success : Success) : Type 0 where
  folder_is : Words ≡ success.folder
  name_is : head.word ≡ success.name

convert_at : (limit : ℕ) (ledger : Ledger) (head : ConvertHead) (success : Success) → (after_convert_head limit ledger head).answers (Ok success) → IsConvertAt head success
convert_at limit ledger head success (tables, files, (other, known, (admitted, systems, (over, base, (change, related, (lines, made, (entry, there, (is, text)))))))) =
    record { folder_is = sym (ap (λ (s : Success). s.folder) is); name_is = sym (ap (λ (s : Success). s.name) is) }

-- a command whose head is this one
pub convert_changed : (limit : ℕ) (ledger : Ledger) (text : List ℕ) (shown : Bool) (head : ConvertHead) (file_change : FileChange) → HeadAnswers DerivesConvert text (Ok head) → file_change.folder ≡ Words → file_change.name ≡ head.word
    → Makes (custom_of ledger) (after_convert_head limit ledger head) shown (Ok file_change.made) → ChangesFile (custom_of ledger) (convert_checks limit ledger text) shown (Ok file_change)
convert_changed limit ledger text shown head file_change spells folder_is name_is made =
    let at : IsConvertAt head made.success = convert_at limit ledger head made.success made.answers in
    changes_after (custom_of ledger) (Pure (HeadAnswers DerivesConvert text)) (λ h. after_convert_head limit ledger h) head shown (Ok file_change) spells (record { made = made; folder_is = folder_is ∙ at.folder_is; name_is = name_is ∙ at.name_is })

pub convert_failed : (limit : ℕ) (ledger : Ledger) (text : List ℕ) (shown : Bool) (head : ConvertHead) (fault : Fault) → HeadAnswers DerivesConvert text (Ok head) → Fails (after_convert_head limit ledger head) fault → ChangesFile (custom_of ledger) (convert_checks limit ledger text) shown (Err fault)
convert_failed limit ledger text shown head fault spells refused = changes_after (custom_of ledger) (Pure (HeadAnswers DerivesConvert text)) (λ h. after_convert_head limit ledger h) head shown (Err fault) spells refused

module _ (limit : ℕ) (ledger : Ledger) (head : ConvertHead) where
  -- the file of the old word is not loaded
  pub convert_unloaded : (fault : Fault) → Fails (files_loaded ledger (first_files (old_mentions head.old))) fault → Fails (after_convert_head limit ledger head) fault
  convert_unloaded fault refused = fails_first (files_loaded ledger (first_files (old_mentions head.old))) (λ tables. after_convert_table limit ledger head tables) fault refused

  module _ (tables : List Loaded) where
    -- what is made where it is
    pub convert_loaded : (shown : Bool) (result : Result Made Fault) → FilesAnswers ledger (first_files (old_mentions head.old)) (Ok tables) → Makes (custom_of ledger) (after_convert_table limit ledger head tables) shown result
        → Makes (custom_of ledger) (after_convert_head limit ledger head) shown result
    convert_loaded shown result there makes = makes_after (custom_of ledger) (files_loaded ledger (first_files (old_mentions head.old))) (λ ts. after_convert_table limit ledger head ts) tables shown result there makes

    -- the new system is named like a base that there is not
    pub base_unknown : (fault : Fault) → Fails (no_unknown_base head.system) fault → Fails (after_convert_table limit ledger head tables) fault
    base_unknown fault refused = fails_first (no_unknown_base head.system) (λ other. after_new_name limit ledger head tables) fault refused

    module _ (other : UnknownBaseAnswers head.system (Ok tt)) where
      -- a system of the old word is refused
      pub systems_unknown : (fault : Fault) → Fails (systems_known limit (custom_of ledger) (first_systems (headers_of tables) (old_mentions head.old))) fault → Fails (after_convert_table limit ledger head tables) fault
      systems_unknown fault refused =
          fails_after (no_unknown_base head.system) (λ o. after_new_name limit ledger head tables) tt fault other
          (fails_first (systems_known limit (custom_of ledger) (first_systems (headers_of tables) (old_mentions head.old))) (λ admitted. after_convert_systems ledger head tables admitted) fault refused)

      -- what is made where they are known
      pub systems_there : (admitted : StepLog) (shown : Bool) (result : Result Made Fault) → SystemsAnswers limit (custom_of ledger) (first_systems (headers_of tables) (old_mentions head.old)) (Ok admitted)
          → Makes (custom_of ledger) (after_convert_systems ledger head tables admitted) shown result → Makes (custom_of ledger) (after_convert_table limit ledger head tables) shown result
      systems_there admitted shown result known makes =
          makes_after (custom_of ledger) (no_unknown_base head.system) (λ o. after_new_name limit ledger head tables) tt shown result other
          (makes_after (custom_of ledger) (systems_known limit (custom_of ledger) (first_systems (headers_of tables) (old_mentions head.old))) (λ log. after_convert_systems ledger head tables log) admitted shown result known makes)

module _ (ledger : Ledger) (head : ConvertHead) (tables : List Loaded) (admitted : StepLog) where
  -- the old word has not one track over a base
  pub base_missing : (fault : Fault) → Fails (over_base None (headers_of tables) head.old) fault → Fails (after_convert_systems ledger head tables admitted) fault
  base_missing fault refused = fails_first (over_base None (headers_of tables) head.old) (λ over. after_old_base ledger head tables admitted over) fault refused

  module _ (over : BaseSystem) (over_is : IsBaseOf None (headers_of tables) head.old over) where
    -- the new system is no base, or the bases are not powers of one integer
    pub bases_unrelated : (fault : Fault) → Fails (related_base over head.system) fault → Fails (after_convert_systems ledger head tables admitted) fault
    bases_unrelated fault refused =
        fails_after (over_base None (headers_of tables) head.old) (λ o. after_old_base ledger head tables admitted o) over fault over_is
        (fails_first (related_base over head.system) (λ change. after_change ledger head tables admitted change) fault refused)

    -- what is made where they are
    pub bases_related : (change : Change) → IsChange over head.system change → (shown : Bool) (result : Result Made Fault) → Makes (custom_of ledger) (after_change ledger head tables admitted change) shown result
        → Makes (custom_of ledger) (after_convert_systems ledger head tables admitted) shown result
    bases_related change change_is shown result makes =
        makes_after (custom_of ledger) (over_base None (headers_of tables) head.old) (λ o. after_old_base ledger head tables admitted o) over shown result over_is
        (makes_after (custom_of ledger) (related_base over head.system) (λ c. after_change ledger head tables admitted c) change shown result change_is makes)

  -- no file is read after the systems
  no_convert_read : (place : Place) → (after_convert_systems ledger head tables admitted).reads place → ⊥
  no_convert_read place (inl read) = read
  no_convert_read place (inr (over, is, inl read)) = read
  no_convert_read place (inr (over, is, inr (change, related, read))) = no_old_read ledger head.word head.old (DoesConvert change) (λ tree. Converted change.system.direction (named_base change.system) tree) tables admitted place read

-- so what is made is refused by no fault of the store
pub convert_own : (admitted : StepLog) (shown : Bool) (read : ReadConvert) (custom : Custom) (r : Result Made Fault) → IsLoadedOld read.old → MakesAfterConvertSystems admitted shown read custom r → IsOwn r
convert_own admitted shown read custom r is makes =
    let files : Files = with_bases is.0 custom in
    let ledger : Ledger = ledger_of files in
    let tables = read.old.mentioned.tables.items in
    own_made (custom_of ledger) (after_convert_systems ledger (head_of [] read) tables admitted) (no_convert_read ledger (head_of [] read) tables admitted) shown r
    (makes ledger files [] (files_store files) (found_custom files) (listed_elsewhere is.0 custom (first_files (old_mentions read.old.name)) tables is.1.listed))

-- what is made of a head whose word is loaded
pub convert_read_made : (limit : ℕ) (shown : Bool) (ledger : Ledger) (head : ConvertHead) (old : OldWord) (found : Files) (result : Result Made Fault) → Stores ledger found → IsOldAt head.old found old
    → Makes (custom_of ledger) (after_convert_table limit ledger (record { word = head.word; system = head.system; old = old.name }) old.mentioned.tables.items) shown result → Makes (custom_of ledger) (after_convert_head limit ledger head) shown result
convert_read_made limit shown ledger head old found result stores is makes =
    let P : List ℕ → Type 0 = λ name. Makes (custom_of ledger) (after_convert_table limit ledger (record { word = head.word; system = head.system; old = name }) old.mentioned.tables.items) shown result in
    convert_loaded limit ledger head old.mentioned.tables.items shown result (found, stores, subst (λ (name : List ℕ). AreListedBy found (first_files (old_mentions name)) old.mentioned.tables.items) is.name_is is.there.listed) (subst P is.name_is makes)
