-- From what each part of the code makes of listed automata to what all checks of their command make.
use Rattle.std.proofs.Common.{◌≡◌, ℕ, Bool, List, [], None, Result, Ok, Err, inl, inr, sym, ap, ◌∙◌}
use Rattle.wal_outside.specs.Files.{Files}
use Rattle.wal_outside.specs.Places.{Place}
use Rattle.wal_outside.specs.declared.folder.Folder.TheVariants.{Words}
use Rattle.digit_tuple.specs.Steps.{StepLog}
use Rattle.digit_tuple.specs.declared.steps.StepLine.{StepLine}
use Rattle.command_head.specs.Breaks.{HasHead}
use Rattle.command_head.specs.Grammar.{DerivesCombine}
use Rattle.command_head.specs.HeadViews.{combine_view}
use Rattle.command_head.specs.Heads.{CombineHead}
use Rattle.command_head.specs.declared.fault.HeadFault.{HeadFault}
use Rattle.command_head.specs.declared.head.CombineParts.{CombineParts}
use Rattle.dfa_loading.specs.Headers.{headers_of}
use Rattle.dfa_loading.specs.declared.loaded.Loaded.{Loaded}
use Rattle.definitions.proofs.CustomTexts.{found_custom}
use Rattle.definitions.specs.Trees.{Ledger, ledger_of, custom_of}
use Rattle.system_files.specs.SystemFiles.{Custom}
use Rattle.word_commands.specs.declared.combine.ListedAutomata.{ListedAutomata}
use Rattle.command_parts.specs.declared.fault.Fault.{Fault}
use Rattle.command_parts.specs.declared.file_change.Made.{Made}
use Rattle.command_parts.specs.declared.file_change.FileChange.{FileChange}
use Rattle.command_parts.specs.Accepting.{Success, stored}
use Rattle.command_parts.specs.Checks.{Pure, Fails}
use Rattle.word_commands.specs.CombineMakes.{IsReadList, MakesAfterListedSystems, automata_of, head_of}
use Rattle.word_commands.specs.CombineOutcomes.{WordTracks, PlainAnswers, ShapeAnswers, CombinedAnswers, HaveSystemsOfFirst, first_plain, listed_files, listed_names, listed_systems, after_listed_systems, after_listed_tables, after_combine_head, combine_checks}
use Rattle.command_parts.specs.FileChecks.{FilesAnswers, files_loaded}
use Rattle.command_parts.specs.HeadAnswers.{HeadAnswers, fault_of_head}
use Rattle.command_parts.specs.FileChanges.{Makes, ChangesFile}
use Rattle.command_parts.specs.SystemChecks.{SystemsAnswers, systems_known}
use Rattle.word_commands.proofs.CombineCheckNames.{WordTracksAnswers, combine_success, after_combined, after_shape, after_plain}
use Rattle.command_parts.proofs.CheckSteps.{fails_first, fails_after, makes_after, changes_after}
use Rattle.command_parts.proofs.StoredLedgers.{files_store}
use Rattle.command_parts.proofs.FilesElsewhere.{listed_elsewhere}
use Rattle.command_parts.proofs.StoreReads.{IsOwn, own_made}
use Rattle.command_parts.proofs.TextReads.{with_bases}
use Rattle.command_parts.proofs.HeadSteps.{head_unread}

-- where the head breaks the grammar
pub list_broken : (limit : ℕ) (ledger : Ledger) (text : List ℕ) (fault : HeadFault) → HasHead {X = CombineParts} DerivesCombine combine_view text (Err fault) → Fails (combine_checks limit ledger text) (fault_of_head fault)
list_broken limit ledger text fault breaks = fails_first (Pure (HeadAnswers DerivesCombine text)) (λ head. after_combine_head limit ledger head) (fault_of_head fault) (head_unread DerivesCombine combine_view text fault breaks)

-- what is accepted is among words, under the name of the head
record IsWordAt (head : CombineHead) (success : Success) : Type 0 where
  folder_is : Words ≡ success.folder
  name_is : head.word ≡ success.name

word_at : (limit : ℕ) (ledger : Ledger) (head : CombineHead) (success : Success) → (after_combine_head limit ledger head).answers (Ok success) → IsWordAt head success
word_at limit ledger head success (tables, files, (admitted, systems, (none, plain, (one, shape, (lines, combined, (tracks, are, (is, text))))))) = record { folder_is = sym (ap (λ (s : Success). s.folder) is); name_is = sym (ap (λ (s : Success). s.name) is) }

-- a command whose head is this one
pub list_changed : (limit : ℕ) (ledger : Ledger) (text : List ℕ) (shown : Bool) (head : CombineHead) (change : FileChange) → HeadAnswers DerivesCombine text (Ok head) → change.folder ≡ Words → change.name ≡ head.word
    → Makes (custom_of ledger) (after_combine_head limit ledger head) shown (Ok change.made) → ChangesFile (custom_of ledger) (combine_checks limit ledger text) shown (Ok change)
list_changed limit ledger text shown head change spells folder_is name_is made =
    let at : IsWordAt head made.success = word_at limit ledger head made.success made.answers in
    changes_after (custom_of ledger) (Pure (HeadAnswers DerivesCombine text)) (λ h. after_combine_head limit ledger h) head shown (Ok change) spells (record { made = made; folder_is = folder_is ∙ at.folder_is; name_is = name_is ∙ at.name_is })

pub list_failed : (limit : ℕ) (ledger : Ledger) (text : List ℕ) (shown : Bool) (head : CombineHead) (fault : Fault) → HeadAnswers DerivesCombine text (Ok head) → Fails (after_combine_head limit ledger head) fault → ChangesFile (custom_of ledger) (combine_checks limit ledger text) shown (Err fault)
list_failed limit ledger text shown head fault spells refused = changes_after (custom_of ledger) (Pure (HeadAnswers DerivesCombine text)) (λ h. after_combine_head limit ledger h) head shown (Err fault) spells refused

-- its files are not loaded
pub list_unloaded : (limit : ℕ) (ledger : Ledger) (head : CombineHead) (fault : Fault) → Fails (files_loaded ledger (listed_files head.automata)) fault → Fails (after_combine_head limit ledger head) fault
list_unloaded limit ledger head fault refused = fails_first (files_loaded ledger (listed_files head.automata)) (λ tables. after_listed_tables limit ledger head tables) fault refused

-- what is made where they are
pub list_loaded : (limit : ℕ) (ledger : Ledger) (head : CombineHead) (tables : List Loaded) (shown : Bool) (result : Result Made Fault) → FilesAnswers ledger (listed_files head.automata) (Ok tables) → Makes (custom_of ledger) (after_listed_tables limit ledger head tables) shown result
    → Makes (custom_of ledger) (after_combine_head limit ledger head) shown result
list_loaded limit ledger head tables shown result there makes = makes_after (custom_of ledger) (files_loaded ledger (listed_files head.automata)) (λ ts. after_listed_tables limit ledger head ts) tables shown result there makes

-- a system of their tracks is refused
pub list_unknown : (limit : ℕ) (ledger : Ledger) (head : CombineHead) (tables : List Loaded) (fault : Fault) → Fails (systems_known limit (custom_of ledger) (listed_systems tables head.automata)) fault → Fails (after_listed_tables limit ledger head tables) fault
list_unknown limit ledger head tables fault refused = fails_first (systems_known limit (custom_of ledger) (listed_systems tables head.automata)) (λ admitted. after_listed_systems ledger head tables admitted) fault refused

-- what is made where they are known
pub list_known : (limit : ℕ) (ledger : Ledger) (head : CombineHead) (tables : List Loaded) (admitted : StepLog) (shown : Bool) (result : Result Made Fault) → SystemsAnswers limit (custom_of ledger) (listed_systems tables head.automata) (Ok admitted)
    → Makes (custom_of ledger) (after_listed_systems ledger head tables admitted) shown result → Makes (custom_of ledger) (after_listed_tables limit ledger head tables) shown result
list_known limit ledger head tables admitted shown result known makes =
    makes_after (custom_of ledger) (systems_known limit (custom_of ledger) (listed_systems tables head.automata)) (λ log. after_listed_systems ledger head tables log) admitted shown result known makes

-- an automaton is over sets
pub list_plain : (ledger : Ledger) (head : CombineHead) (tables : List Loaded) (admitted : StepLog) (fault : Fault) → Fails (Pure (PlainAnswers (headers_of tables) (listed_names head.automata))) fault → Fails (after_listed_systems ledger head tables admitted) fault
list_plain ledger head tables admitted fault refused = fails_first (Pure (PlainAnswers (headers_of tables) (listed_names head.automata))) (λ none. after_plain ledger head tables admitted) fault refused

module _ (ledger : Ledger) (head : CombineHead) (tables : List Loaded) (admitted : StepLog) (plain : first_plain (headers_of tables) (listed_names head.automata) ≡ None) where
  -- they have not one shape
  pub list_unlike : (fault : Fault) → Fails (Pure (ShapeAnswers (headers_of tables) (listed_names head.automata))) fault → Fails (after_listed_systems ledger head tables admitted) fault
  list_unlike fault refused =
      fails_after (Pure (PlainAnswers (headers_of tables) (listed_names head.automata))) (λ none. after_plain ledger head tables admitted) tt fault plain
      (fails_first (Pure (ShapeAnswers (headers_of tables) (listed_names head.automata))) (λ shape. after_shape ledger head tables admitted) fault refused)

  module _ (shape : HaveSystemsOfFirst (headers_of tables) (listed_names head.automata)) where
    shaped : (shown : Bool) (result : Result Made Fault) → Makes (custom_of ledger) (after_shape ledger head tables admitted) shown result → Makes (custom_of ledger) (after_listed_systems ledger head tables admitted) shown result
    shaped shown result makes =
        makes_after (custom_of ledger) (Pure (PlainAnswers (headers_of tables) (listed_names head.automata))) (λ none. after_plain ledger head tables admitted) tt shown result plain
        (makes_after (custom_of ledger) (Pure (ShapeAnswers (headers_of tables) (listed_names head.automata))) (λ one. after_shape ledger head tables admitted) tt shown result shape makes)

    -- a step passes a limit
    pub list_stopped : (shown : Bool) (fault : Fault) → Fails (Pure (CombinedAnswers admitted (custom_of ledger) tables head.automata)) fault → Makes (custom_of ledger) (after_listed_systems ledger head tables admitted) shown (Err fault)
    list_stopped shown fault refused = shaped shown (Err fault) (fails_first (Pure (CombinedAnswers admitted (custom_of ledger) tables head.automata)) (λ lines. after_combined ledger head tables lines) fault refused)

    -- what is made where the steps are done
    pub list_combined : (lines : List StepLine) → CombinedAnswers admitted (custom_of ledger) tables head.automata (Ok lines) → (tracks : WordTracks) → WordTracksAnswers (custom_of ledger) (headers_of tables) (listed_names head.automata) (Ok tracks) → (shown : Bool) (result : Result Made Fault)
        → Makes (custom_of ledger) (stored (custom_of ledger) (combine_success ledger head tracks lines)) shown result → Makes (custom_of ledger) (after_listed_systems ledger head tables admitted) shown result
    list_combined lines combined tracks are shown result makes =
        shaped shown result
        (makes_after (custom_of ledger) (Pure (CombinedAnswers admitted (custom_of ledger) tables head.automata)) (λ ls. after_combined ledger head tables ls) lines shown result combined
        (makes_after (custom_of ledger) (Pure (WordTracksAnswers (custom_of ledger) (headers_of tables) (listed_names head.automata))) (λ ts. stored (custom_of ledger) (combine_success ledger head ts lines)) tracks shown result are makes))

-- no file is read after the systems
no_list_read : (ledger : Ledger) (head : CombineHead) (tables : List Loaded) (admitted : StepLog) (place : Place) → (after_listed_systems ledger head tables admitted).reads place → ⊥
no_list_read ledger head tables admitted place (inl read) = read
no_list_read ledger head tables admitted place (inr (none, plain, inl read)) = read
no_list_read ledger head tables admitted place (inr (none, plain, inr (one, shape, inl read))) = read
no_list_read ledger head tables admitted place (inr (none, plain, inr (one, shape, inr (lines, combined, inl read)))) = read
no_list_read ledger head tables admitted place (inr (none, plain, inr (one, shape, inr (lines, combined, inr (tracks, are, read))))) = read

-- so what is made is refused by no fault of the store
pub list_own : (admitted : StepLog) (shown : Bool) (read : ListedAutomata) (custom : Custom) (r : Result Made Fault) → IsReadList read → MakesAfterListedSystems admitted shown read custom r → IsOwn r
list_own admitted shown read custom r is makes =
    let files : Files = with_bases is.loaded.0 custom in
    let ledger : Ledger = ledger_of files in
    let tables = read.mentioned.tables.items in
    own_made (custom_of ledger) (after_listed_systems ledger (head_of [] read) tables admitted) (no_list_read ledger (head_of [] read) tables admitted) shown r
    (makes ledger files [] (files_store files) (found_custom files) (listed_elsewhere is.loaded.0 custom (listed_files (automata_of read)) tables is.loaded.1.listed))
