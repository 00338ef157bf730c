-- From what each part of the code makes of a word under a transducer to what all checks of its command make.
use Rattle.std.proofs.Common.{◌≡◌, ℕ, Bool, List, [], Some, Result, Ok, Err, codes, inl, inr, sym, ap, ◌∙◌, subst}
use Rattle.wal_outside.specs.Files.{Files}
use Rattle.wal_outside.specs.Places.{Place}
use Rattle.wal_outside.specs.declared.folder.Folder.TheVariants.{Bases, Words}
use Rattle.digit_tuple.specs.Steps.{StepLog}
use Rattle.digit_tuple.specs.declared.direction.Direction.TheVariants.{Msd}
use Rattle.command_head.specs.Breaks.{HasHead}
use Rattle.command_head.specs.Grammar.{DerivesImage}
use Rattle.command_head.specs.HeadViews.{image_view}
use Rattle.command_head.specs.Heads.{ImageHead}
use Rattle.command_head.specs.declared.fault.HeadFault.{HeadFault}
use Rattle.command_head.specs.declared.head.ImageParts.{ImageParts}
use Rattle.dfa_loading.specs.Headers.{headers_of}
use Rattle.dfa_loading.specs.Loading.{AreListedBy}
use Rattle.dfa_loading.specs.declared.loaded.Loaded.{Loaded}
use Rattle.formula_resolve.specs.FirstMentions.{first_files, first_systems}
use Rattle.transducer_reading.specs.Transducers.{Transducer}
use Rattle.definitions.proofs.CustomTexts.{found_custom, stored_custom}
use Rattle.definitions.specs.Texts.{Stores}
use Rattle.definitions.specs.Trees.{Ledger, Transduced, ledger_of, custom_of}
use Rattle.system_files.specs.SystemFiles.{Custom}
use Rattle.word_commands.specs.declared.base_system.BaseSystem.{BaseSystem}
use Rattle.command_parts.specs.declared.fault.Fault.{Fault}
use Rattle.command_parts.specs.declared.file_change.Made.{Made}
use Rattle.command_parts.specs.declared.file_change.FileChange.{FileChange}
use Rattle.command_parts.specs.declared.step_options.StepOptions.{StepOptions}
use Rattle.word_commands.specs.declared.transduce.ReadTransducer.{ReadTransducer}
use Rattle.command_parts.specs.Accepting.{Success}
use Rattle.word_commands.specs.BaseWords.{IsBaseOf, named_base, over_base}
use Rattle.command_parts.specs.Checks.{Pure, Fails}
use Rattle.command_parts.specs.FileChecks.{FilesAnswers, files_loaded}
use Rattle.command_parts.specs.HeadAnswers.{HeadAnswers, fault_of_head}
use Rattle.word_commands.specs.ImageOutcomes.{old_mentions}
use Rattle.word_commands.specs.OldWordMakes.{IsLoadedOld}
use Rattle.command_parts.specs.FileChanges.{Makes, ChangesFile}
use Rattle.command_parts.specs.SystemChecks.{SystemsAnswers, systems_known}
use Rattle.word_commands.specs.TransduceMakes.{IsReadBy, MakesAfterSystems, MakesAfterTable, head_of}
use Rattle.word_commands.specs.TransduceOutcomes.{after_transduce_head, after_transduced_base, after_transduced_systems, after_transduced_table, after_transducer, transduce_checks}
use Rattle.word_commands.specs.TransduceSteps.{DoesTransduce}
use Rattle.word_commands.specs.TransducerChecks.{TransducerAnswers, transducer_loaded}
use Rattle.command_parts.proofs.CheckSteps.{fails_first, fails_after, makes_after, changes_after}
use Rattle.command_parts.proofs.StoredLedgers.{files_store}
use Rattle.command_parts.proofs.FilesElsewhere.{listed_elsewhere}
use Rattle.command_parts.proofs.HeadSteps.{head_unread}
use Rattle.word_commands.proofs.OldWordChains.{no_old_read}
use Rattle.command_parts.proofs.StoreReads.{IsOwn, own_made}
use Rattle.command_parts.proofs.TextReads.{with_bases}

abbrev derives : List (List ℕ) → ImageHead → Type 0
derives = DerivesImage (codes "transduce")

-- where the head breaks the grammar
pub transduce_broken : (limit : ℕ) (ledger : Ledger) (text : List ℕ) (fault : HeadFault) → HasHead {X = ImageParts} (DerivesImage (codes "transduce")) image_view text (Err fault) → Fails (transduce_checks limit ledger text) (fault_of_head fault)
transduce_broken limit ledger text fault breaks = fails_first (Pure (HeadAnswers derives text)) (λ head. after_transduce_head limit ledger head) (fault_of_head fault) (head_unread derives image_view text fault breaks)

-- what is accepted is among words, under the name of the head
record IsTransduceAt (head : ImageHead) (success : Success) : Type 0 where
  folder_is : Words ≡ success.folder
  name_is : head.word ≡ success.name

transduce_at : (limit : ℕ) (ledger : Ledger) (head : ImageHead) (success : Success) → (after_transduce_head limit ledger head).answers (Ok success) → IsTransduceAt head success
transduce_at limit ledger head success (t, read, (tables, files, (admitted, systems, (over, base, (lines, made, (entry, there, (is, text))))))) =
    record { folder_is = sym (ap (λ (s : Success). s.folder) is); name_is = sym (ap (λ (s : Success). s.name) is) }

-- a command whose head is this one
pub transduce_changed : (limit : ℕ) (ledger : Ledger) (text : List ℕ) (shown : Bool) (head : ImageHead) (change : FileChange) → HeadAnswers (DerivesImage (codes "transduce")) text (Ok head) → change.folder ≡ Words → change.name ≡ head.word
    → Makes (custom_of ledger) (after_transduce_head limit ledger head) shown (Ok change.made) → ChangesFile (custom_of ledger) (transduce_checks limit ledger text) shown (Ok change)
transduce_changed limit ledger text shown head change spells folder_is name_is made =
    let at : IsTransduceAt head made.success = transduce_at limit ledger head made.success made.answers in
    changes_after (custom_of ledger) (Pure (HeadAnswers derives text)) (λ h. after_transduce_head limit ledger h) head shown (Ok change) spells (record { made = made; folder_is = folder_is ∙ at.folder_is; name_is = name_is ∙ at.name_is })

pub transduce_failed : (limit : ℕ) (ledger : Ledger) (text : List ℕ) (shown : Bool) (head : ImageHead) (fault : Fault) → HeadAnswers (DerivesImage (codes "transduce")) text (Ok head) → Fails (after_transduce_head limit ledger head) fault
    → ChangesFile (custom_of ledger) (transduce_checks limit ledger text) shown (Err fault)
transduce_failed limit ledger text shown head fault spells refused = changes_after (custom_of ledger) (Pure (HeadAnswers derives text)) (λ h. after_transduce_head limit ledger h) head shown (Err fault) spells refused

module _ (limit : ℕ) (ledger : Ledger) (head : ImageHead) where
  -- its transducer is not loaded
  pub no_transducer : (fault : Fault) → Fails (transducer_loaded ledger head.mapping) fault → Fails (after_transduce_head limit ledger head) fault
  no_transducer fault refused = fails_first (transducer_loaded ledger head.mapping) (λ t. after_transducer limit ledger head t) fault refused

  module _ (t : Transducer) (read : TransducerAnswers ledger head.mapping (Ok t)) where
    -- the old word is not
    pub no_old_word : (fault : Fault) → Fails (files_loaded ledger (first_files (old_mentions head.old))) fault → Fails (after_transduce_head limit ledger head) fault
    no_old_word fault refused =
        fails_after (transducer_loaded ledger head.mapping) (λ t. after_transducer limit ledger head t) t fault read
        (fails_first (files_loaded ledger (first_files (old_mentions head.old))) (λ tables. after_transduced_table limit ledger head t tables) fault refused)

    -- what is made where both are
    pub transduce_loaded : (tables : List Loaded) (shown : Bool) (result : Result Made Fault) → FilesAnswers ledger (first_files (old_mentions head.old)) (Ok tables) → Makes (custom_of ledger) (after_transduced_table limit ledger head t tables) shown result
        → Makes (custom_of ledger) (after_transduce_head limit ledger head) shown result
    transduce_loaded tables shown result there makes =
        makes_after (custom_of ledger) (transducer_loaded ledger head.mapping) (λ t. after_transducer limit ledger head t) t shown result read
        (makes_after (custom_of ledger) (files_loaded ledger (first_files (old_mentions head.old))) (λ ts. after_transduced_table limit ledger head t ts) tables shown result there makes)

  module _ (t : Transducer) (tables : List Loaded) where
    -- a system of its tracks is refused
    pub systems_refused : (fault : Fault) → Fails (systems_known limit (custom_of ledger) (first_systems (headers_of tables) (old_mentions head.old))) fault → Fails (after_transduced_table limit ledger head t tables) fault
    systems_refused fault refused = fails_first (systems_known limit (custom_of ledger) (first_systems (headers_of tables) (old_mentions head.old))) (λ admitted. after_transduced_systems ledger head t tables admitted) fault refused

    -- what is made where they are known
    pub systems_passed : (admitted : StepLog) (shown : Bool) (result : Result Made Fault) → SystemsAnswers limit (custom_of ledger) (first_systems (headers_of tables) (old_mentions head.old)) (Ok admitted)
        → Makes (custom_of ledger) (after_transduced_systems ledger head t tables admitted) shown result → Makes (custom_of ledger) (after_transduced_table limit ledger head t tables) shown result
    systems_passed admitted shown result known makes =
        makes_after (custom_of ledger) (systems_known limit (custom_of ledger) (first_systems (headers_of tables) (old_mentions head.old))) (λ log. after_transduced_systems ledger head t tables log) admitted shown result known makes

module _ (ledger : Ledger) (head : ImageHead) (t : Transducer) (tables : List Loaded) (admitted : StepLog) where
  -- the old word has no such base
  pub base_refused : (fault : Fault) → Fails (over_base (Some Msd) (headers_of tables) head.old) fault → Fails (after_transduced_systems ledger head t tables admitted) fault
  base_refused fault refused = fails_first (over_base (Some Msd) (headers_of tables) head.old) (λ over. after_transduced_base ledger head t tables admitted over) fault refused

  -- what is made where it has
  pub base_passed : (over : BaseSystem) (shown : Bool) (result : Result Made Fault) → IsBaseOf (Some Msd) (headers_of tables) head.old over → Makes (custom_of ledger) (after_transduced_base ledger head t tables admitted over) shown result
      → Makes (custom_of ledger) (after_transduced_systems ledger head t tables admitted) shown result
  base_passed over shown result is makes = makes_after (custom_of ledger) (over_base (Some Msd) (headers_of tables) head.old) (λ o. after_transduced_base ledger head t tables admitted o) over shown result is makes

  -- no file is read after the systems
  no_more_read : (place : Place) → (after_transduced_systems ledger head t tables admitted).reads place → ⊥
  no_more_read place (inl read) = read
  no_more_read place (inr (over, is, read)) = no_old_read ledger head.word head.old (DoesTransduce t) (λ tree. Transduced (named_base over) t tree) tables admitted place read

-- so what is made is refused by no fault of the store
pub transduce_own : (admitted : StepLog) (shown : Bool) (read : ReadTransducer) (custom : Custom) (r : Result Made Fault) → IsLoadedOld read.old → MakesAfterSystems admitted shown read custom r → IsOwn r
transduce_own admitted shown read custom r is makes =
    let files : Files = with_bases is.0 custom in
    let ledger : Ledger = ledger_of files in
    let tables = read.old.mentioned.tables.items in
    own_made (custom_of ledger) (after_transduced_systems ledger (head_of [] [] read) read.transducer tables admitted) (no_more_read ledger (head_of [] [] read) read.transducer tables admitted) shown r
    (makes ledger files [] [] (files_store files) (found_custom files) (listed_elsewhere is.0 custom (first_files (old_mentions read.old.name)) tables is.1.listed))

-- what is made of a head whose transducer and word are read
pub transduce_read_made : (options : StepOptions) (ledger : Ledger) (head : ImageHead) (read : ReadTransducer) (found : Files) (result : Result Made Fault) → Stores ledger found → IsReadBy head found read → MakesAfterTable options read (found Bases) result
    → Makes (custom_of ledger) (after_transduce_head options.limit ledger head) options.shown result
transduce_read_made options ledger head read found result stores is makes =
    let there = makes ledger found head.word head.mapping stores (stored_custom ledger found stores) is.old.there.listed in
    let P : List ℕ → Type 0 = λ old. Makes (custom_of ledger) (after_transduced_table options.limit ledger (record { word = head.word; mapping = head.mapping; old = old }) read.transducer read.old.mentioned.tables.items) options.shown result in
    transduce_loaded options.limit ledger head read.transducer (found, stores, is.transducer) read.old.mentioned.tables.items options.shown result
    (found, stores, subst (λ (old : List ℕ). AreListedBy found (first_files (old_mentions old)) read.old.mentioned.tables.items) is.old.name_is is.old.there.listed) (subst P is.old.name_is there)
