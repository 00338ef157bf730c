-- From what each part of the code makes of the languages of a command to what all checks of the command make.
use Rattle.std.proofs.Common.{◌≡◌, ◌≢◌, ℕ, ℤ, Bool, List, [], ◌∷◌, None, Result, Ok, Err, inl, inr, refl, sym, ap, ◌∙◌, subst, append-nil}
use Rattle.wal_outside.specs.Files.{Files}
use Rattle.wal_outside.specs.Places.{Place}
use Rattle.wal_outside.specs.declared.folder.Folder.TheVariants.{Automata}
use Rattle.command_head.specs.Breaks.{HasHead}
use Rattle.command_head.specs.HeadViews.{languages_view}
use Rattle.command_head.specs.Heads.{LanguagesHead}
use Rattle.command_head.specs.declared.fault.HeadFault.{HeadFault}
use Rattle.command_head.specs.declared.head.LanguagesParts.{LanguagesParts}
use Rattle.digit_tuple.specs.Deterministic.{Automaton}
use Rattle.digit_tuple.specs.Steps.{StepLog}
use Rattle.digit_tuple.specs.declared.header.Header.TheVariants as headers
use Rattle.digit_tuple.specs.declared.step_fault.StepFault.{StepFault}
use Rattle.digit_tuple.specs.declared.step_fault.StepFault.TheVariants as steps
use Rattle.automaton_steps.proofs.ThenAnswers.{no_fault}
use Rattle.dfa_loading.specs.Loading.{AreListedBy}
use Rattle.dfa_loading.specs.declared.loaded.Loaded.{Loaded}
use Rattle.dfa_text.specs.RelationText.{relation_text}
use Rattle.language_steps.specs.LanguageSteps.{DoesLanguage}
use Rattle.language_steps.specs.Operands.{HasCount, RunsOutOr}
use Rattle.language_steps.specs.Tables.{AreOverSets, first_not_plain}
use Rattle.system_admission.specs.SystemSteps.{no_steps}
use Rattle.definitions.specs.Texts.{HasTreeText}
use Rattle.language_steps.specs.declared.op.LanguageOp.{LanguageOp}
use Rattle.language_steps.specs.declared.op.LanguageOp.TheVariants.{Pair, One}
use Rattle.definitions.specs.Trees.{Language, Ledger, custom_of, ledger_of, trees_of}
use Rattle.command_parts.specs.declared.fault.Fault.{Fault}
use Rattle.command_parts.specs.declared.fault.Fault.TheVariants as faults
use Rattle.command_parts.specs.declared.file_change.Made.{Made}
use Rattle.command_parts.specs.declared.file_change.FileChange.{FileChange}
use Rattle.command_parts.specs.declared.step_options.StepOptions.{StepOptions}
use Rattle.command_parts.specs.Accepting.{Success, stored}
use Rattle.command_parts.specs.Checks.{Pure, Fails}
use Rattle.command_parts.specs.FileChecks.{FilesAnswers, files_loaded}
use Rattle.command_parts.specs.HeadAnswers.{HeadAnswers, fault_of_head}
use Rattle.language_commands.specs.LanguageMakes.{MakesLanguage}
use Rattle.language_commands.specs.LanguageOutcomes.{DerivesOperation, all_plain, after_header, after_language_head, after_language_tables, after_sets, language_checks, language_done, language_files, language_success, one_header, tree_op}
use Rattle.command_parts.specs.Lines.{shown_steps}
use Rattle.language_commands.specs.StoredRelations.{IsNotPrinted, Prints}
use Rattle.command_parts.specs.FileChanges.{Makes, ChangesFile}
use Rattle.command_parts.specs.TextChanges.{IsTextRefused}
use Rattle.command_parts.specs.TrackSystems.{fault_of}
use Rattle.command_parts.proofs.CheckSteps.{fails_first, makes_after, changes_after}
use Rattle.command_parts.proofs.StoredLedgers.{files_store}
use Rattle.command_parts.proofs.HeadSteps.{head_unread}
use Rattle.command_parts.proofs.StoreReads.{IsOwn, own_made}
use Rattle.command_parts.proofs.StoringTexts.{unstored}

-- as many languages as the operation takes
pub head_count : (op : LanguageOp) (parts : List (List ℕ)) (head : LanguagesHead) → DerivesOperation op parts head → HasCount op head.languages
head_count (Pair op) parts head derived = derived.some
head_count (One op) parts head derived = (derived.language, derived.one)

-- at least one
pub some_names : (op : LanguageOp) (names : List (List ℕ)) → HasCount op names → names ≢ []
some_names (Pair op) names count = count
some_names (One op) names (name, is) = λ none. let no : [] ≡ name ∷ [] = sym none ∙ is in absurd (cc)

-- what is made is made by the steps
pub done_of : (does : StepLog → Result Automaton StepFault → StepLog → Type 0) (old : StepLog) (made : Automaton) (new : StepLog) → RunsOutOr does old (Ok made) new → does old (Ok made) new
done_of does old made new (inl out) = absurd (no_fault made steps.Memory out)
done_of does old made new (inr done) = done

module _ (limit : ℕ) (ledger : Ledger) (op : LanguageOp) (head : LanguagesHead) (tables : List Loaded) where
  module _ (plain : first_not_plain tables ≡ None) (sets : List (List ℤ)) (over : AreOverSets sets tables) where
    -- what is made after the header
    alike : (shown : Bool) (result : Result Made Fault) → Makes (custom_of ledger) (after_header limit ledger op head tables sets) shown result → Makes (custom_of ledger) (after_language_tables limit ledger op head tables) shown result
    alike shown result makes =
        makes_after (custom_of ledger) (all_plain tables) (λ done. after_sets limit ledger op head tables) tt shown result plain
        (makes_after (custom_of ledger) (one_header tables) (λ ss. after_header limit ledger op head tables ss) sets shown result over makes)

    stopped : (fault : StepFault) (log : StepLog) → RunsOutOr (DoesLanguage op head.languages tables) (no_steps limit) (Err fault) log → Fails (language_done limit op head.languages tables) (fault_of fault)
    stopped (steps.Letters step) log (inl out) = let no : Err (steps.Letters step) ≡ Err steps.Memory = out in absurd (cc)
    stopped (steps.Letters step) log (inr does) = (steps.Letters step, refl, (log, does))
    stopped (steps.States step) log (inl out) = let no : Err (steps.States step) ≡ Err steps.Memory = out in absurd (cc)
    stopped (steps.States step) log (inr does) = (steps.States step, refl, (log, does))
    stopped steps.Memory log does = tt

    -- a step is refused
    pub language_stopped : (shown : Bool) (fault : StepFault) (log : StepLog) → RunsOutOr (DoesLanguage op head.languages tables) (no_steps limit) (Err fault) log → Makes (custom_of ledger) (after_language_tables limit ledger op head tables) shown (Err (fault_of fault))
    language_stopped shown fault log does =
        alike shown (Err (fault_of fault))
        (fails_first (language_done limit op head.languages tables) (λ lines. stored (custom_of ledger) (language_success ledger op head sets lines)) (fault_of fault) (stopped fault log does))

    module _ (made : Automaton) (log : StepLog) (does : DoesLanguage op head.languages tables (no_steps limit) (Ok made) log)
        (has : HasTreeText (custom_of ledger) (Language sets (tree_op op) (trees_of ledger head.languages)) (relation_text (headers.Sets sets) made)) where
      text_refused : (fault : Fault) → IsNotPrinted (headers.Sets sets) made fault → IsTextRefused (relation_text (headers.Sets sets) made) fault
      text_refused (faults.Refused refusal) refused = refused
      text_refused faults.Memory refused = tt
      text_refused (faults.Store folder of) refused = absurd refused

      by_text : (shown : Bool) (result : Result Made Fault) → Prints (headers.Sets sets) made shown log.lines result → Makes (custom_of ledger) (stored (custom_of ledger) (language_success ledger op head sets log.lines)) shown result
      by_text shown (Ok stored_made) p =
          let own : HasTreeText (custom_of ledger) (Language sets (tree_op op) (trees_of ledger head.languages)) stored_made.stored.items = subst (HasTreeText (custom_of ledger) (Language sets (tree_op op) (trees_of ledger head.languages))) (sym p.text_is) has in
          record {
            success = language_success ledger op head sets log.lines;
            answers = (refl, (stored_made.stored.items, own, p.fits));
            has_text = own;
            printed_is = p.printed_is ∙ sym (append-nil (shown_steps shown log.lines));
          }
      by_text shown (Err fault) refused = unstored (custom_of ledger) (language_success ledger op head sets log.lines) (relation_text (headers.Sets sets) made) fault has (text_refused fault refused)

      -- the steps are done, and the text is stored, or it is too long
      pub language_stored : (shown : Bool) (result : Result Made Fault) → Prints (headers.Sets sets) made shown log.lines result → Makes (custom_of ledger) (after_language_tables limit ledger op head tables) shown result
      language_stored shown result prints =
          alike shown result
          (makes_after (custom_of ledger) (language_done limit op head.languages tables) (λ lines. stored (custom_of ledger) (language_success ledger op head sets lines)) log.lines shown result (made, log, does, refl) (by_text shown result prints))

-- its files are not loaded
pub language_unloaded : (limit : ℕ) (ledger : Ledger) (op : LanguageOp) (head : LanguagesHead) (fault : Fault) → Fails (files_loaded ledger (language_files head.languages)) fault → Fails (after_language_head limit ledger op head) fault
language_unloaded limit ledger op head fault refused = fails_first (files_loaded ledger (language_files head.languages)) (λ tables. after_language_tables limit ledger op head tables) fault refused

-- what is made where they are
pub language_loaded : (limit : ℕ) (ledger : Ledger) (op : LanguageOp) (head : LanguagesHead) (tables : List Loaded) (shown : Bool) (result : Result Made Fault) → FilesAnswers ledger (language_files head.languages) (Ok tables) → Makes (custom_of ledger) (after_language_tables limit ledger op head tables) shown result
    → Makes (custom_of ledger) (after_language_head limit ledger op head) shown result
language_loaded limit ledger op head tables shown result there makes = makes_after (custom_of ledger) (files_loaded ledger (language_files head.languages)) (λ ts. after_language_tables limit ledger op head ts) tables shown result there makes

-- no file is read after the others
pub no_more_read : (limit : ℕ) (ledger : Ledger) (op : LanguageOp) (head : LanguagesHead) (tables : List Loaded) (place : Place) → (after_language_tables limit ledger op head tables).reads place → ⊥
no_more_read limit ledger op head tables place (inl read) = read
no_more_read limit ledger op head tables place (inr (plain, p, inl read)) = read
no_more_read limit ledger op head tables place (inr (plain, p, inr (sets, s, inl read))) = read
no_more_read limit ledger op head tables place (inr (plain, p, inr (sets, s, inr (lines, l, read)))) = read

-- where the head breaks the grammar
pub language_broken : (op : LanguageOp) (limit : ℕ) (ledger : Ledger) (text : List ℕ) (fault : HeadFault) → HasHead {X = LanguagesParts} (DerivesOperation op) languages_view text (Err fault) → Fails (language_checks op limit ledger text) (fault_of_head fault)
language_broken op limit ledger text fault breaks =
    fails_first (Pure (HeadAnswers (DerivesOperation op) text)) (λ head. after_language_head limit ledger op head) (fault_of_head fault) (head_unread (DerivesOperation op) languages_view text fault breaks)

-- what is accepted is among automata, under the name of the head
record IsAt (head : LanguagesHead) (success : Success) : Type 0 where
  folder_is : Automata ≡ success.folder
  name_is : head.name ≡ success.name

folder_and_name_at : (limit : ℕ) (ledger : Ledger) (op : LanguageOp) (head : LanguagesHead) (success : Success) → (after_language_head limit ledger op head).answers (Ok success) → IsAt head success
folder_and_name_at limit ledger op head success (tables, t, (plain, p, (sets, s, (lines, l, (is, text))))) = record { folder_is = sym (ap (λ (x : Success). x.folder) is); name_is = sym (ap (λ (x : Success). x.name) is) }

-- a command whose head is this one
pub language_changed : (op : LanguageOp) (limit : ℕ) (ledger : Ledger) (text : List ℕ) (shown : Bool) (head : LanguagesHead) (change : FileChange) → HeadAnswers (DerivesOperation op) text (Ok head) → change.folder ≡ Automata → change.name ≡ head.name
    → Makes (custom_of ledger) (after_language_head limit ledger op head) shown (Ok change.made) → ChangesFile (custom_of ledger) (language_checks op limit ledger text) shown (Ok change)
language_changed op limit ledger text shown head change spells folder_is name_is made =
    let at : IsAt head made.success = folder_and_name_at limit ledger op head made.success made.answers in
    changes_after (custom_of ledger) (Pure (HeadAnswers (DerivesOperation op) text)) (λ h. after_language_head limit ledger op h) head shown (Ok change) spells (record { made = made; folder_is = folder_is ∙ at.folder_is; name_is = name_is ∙ at.name_is })

pub language_failed : (op : LanguageOp) (limit : ℕ) (ledger : Ledger) (text : List ℕ) (shown : Bool) (head : LanguagesHead) (fault : Fault) → HeadAnswers (DerivesOperation op) text (Ok head) → Fails (after_language_head limit ledger op head) fault → ChangesFile (custom_of ledger) (language_checks op limit ledger text) shown (Err fault)
language_failed op limit ledger text shown head fault spells refused = changes_after (custom_of ledger) (Pure (HeadAnswers (DerivesOperation op) text)) (λ h. after_language_head limit ledger op h) head shown (Err fault) spells refused

-- what is made of tables that files list is refused by no fault of the store
pub language_own : (options : StepOptions) (op : LanguageOp) (names : List (List ℕ)) (tables : List Loaded) (files : Files) (r : Result Made Fault) → AreListedBy files (language_files names) tables → MakesLanguage options op names tables r → IsOwn r
language_own options op names tables files r listed makes =
    let ledger : Ledger = ledger_of files in
    let head : LanguagesHead = record { name = []; languages = names } in
    own_made (custom_of ledger) (after_language_tables options.limit ledger op head tables) (no_more_read options.limit ledger op head tables) options.shown r (makes ledger files [] (files_store files) listed)
