-- From the head of a `reg` to what it stores.
use Rattle.std.proofs.Common.{◌≡◌, ℕ, ◌≤◌, Bool, List, length, Result, Ok, Err, sym, ◌∙◌, ap, arith, refl}
use Rattle.wal_outside.specs.declared.folder.Folder.TheVariants.{Automata}
use Rattle.digit_tuple.specs.Steps.{StepLog}
use Rattle.command_head.specs.Heads.{RegHead, AtWord, reg_at}
use Rattle.command_head.specs.Parts.{parts_of, texts_of}
use Rattle.command_head.specs.Grammar.{DerivesReg}
use Rattle.command_head.specs.HeadViews.{head_view}
use Rattle.command_head.specs.Readings.{Reads}
use Rattle.command_head.specs.declared.fault.HeadFault.{HeadFault}
use Rattle.command_head.specs.declared.fault.HeadFault.TheVariants as head_faults
use Rattle.command_head.proofs.Walks.{run_goes}
use Rattle.command_head.proofs.ReadHeads.{reg_derived}
use Rattle.command_head.proofs.Breaking.{syntax_breaks, number_breaks}
use Rattle.command_parts.specs.declared.fault.Fault.{Fault}
use Rattle.command_parts.specs.declared.file_change.Made.{Made}
use Rattle.command_parts.specs.declared.file_change.FileChange.{FileChange}
use Rattle.command_parts.specs.Checks.{Pure, Fails}
use Rattle.definitions.specs.Trees.{Ledger, custom_of}
use Rattle.definitions.specs.Tracks.{Tracks}
use Rattle.system_files.specs.SystemFiles.{Custom}
use Rattle.language_commands.specs.HeadTracks.{AreTracksOf}
use Rattle.command_parts.specs.Accepting.{Success}
use Rattle.command_parts.specs.HeadAnswers.{HeadAnswers, fault_of_head}
use Rattle.language_commands.specs.RegOutcomes.{systems_named, TracksAnswers, after_tracks, after_head, reg_checks}
use Rattle.command_parts.specs.SystemChecks.{SystemsAnswers, systems_known}
use Rattle.command_parts.specs.FileChanges.{Makes, ChangesFile}
use Rattle.language_commands.proofs.RegexCheckNames.{after_admission}
use Rattle.command_parts.proofs.CheckSteps.{fails_first, fails_after, makes_after, changes_after}

-- what is read of a text is what its parts derive, or where they break the grammar
spelled : (text : List ℕ) (head : RegHead) → reg_at text ≡ Ok head → DerivesReg (texts_of (parts_of text)) head
unfolding reg_at
spelled text head read = reg_derived (texts_of (parts_of text)) head (run_goes (length text) AtWord (parts_of text) head read)

-- where they do, the command is refused
pub reg_broken : (limit : ℕ) (ledger : Ledger) (text : List ℕ) (fault : HeadFault) → length text ≤ 65536 → Reads head_view (Err fault) (reg_at text) → Fails (reg_checks limit ledger text) (fault_of_head fault)
reg_broken limit ledger text fault short read = fails_first (Pure (HeadAnswers DerivesReg text)) (λ head. after_head limit (custom_of ledger) head) (fault_of_head fault) (breaks fault read)
  where
    breaks : (f : HeadFault) → Reads head_view (Err f) (reg_at text) → Fails (Pure (HeadAnswers DerivesReg text)) (fault_of_head f)
    breaks (head_faults.Syntax at) read = (head_faults.Syntax at, refl, syntax_breaks text at (omega (arith, short)) read)
    breaks (head_faults.Number at) read = (head_faults.Number at, refl, number_breaks text at (omega (arith, short)) read)
    breaks head_faults.Memory read = tt

-- a system of a head is refused
pub head_refused : (limit : ℕ) (custom : Custom) (head : RegHead) (fault : Fault) → Fails (systems_known limit custom (systems_named head.alphabets)) fault → Fails (after_head limit custom head) fault
head_refused limit custom head fault refused = fails_first (systems_known limit custom (systems_named head.alphabets)) (λ admitted. after_admission custom head admitted) fault refused

-- what is made over the tracks of a head whose systems are admitted
pub tracks_made : (limit : ℕ) (custom : Custom) (head : RegHead) (admitted : StepLog) (tracks : Tracks) (shown : Bool) (result : Result Made Fault) → SystemsAnswers limit custom (systems_named head.alphabets) (Ok admitted) → AreTracksOf custom head.alphabets tracks
    → Makes custom (after_tracks admitted custom head.name head.body tracks) shown result → Makes custom (after_head limit custom head) shown result
tracks_made limit custom head admitted tracks shown result known means makes =
    makes_after custom (systems_known limit custom (systems_named head.alphabets)) (λ log. after_admission custom head log) admitted shown result known
    (makes_after custom (Pure (TracksAnswers custom head.alphabets)) (λ ts. after_tracks admitted custom head.name head.body ts) tracks shown result means makes)

pub tracks_fail : (limit : ℕ) (custom : Custom) (head : RegHead) (admitted : StepLog) (fault : Fault) → SystemsAnswers limit custom (systems_named head.alphabets) (Ok admitted) → Fails (Pure (TracksAnswers custom head.alphabets)) fault → Fails (after_head limit custom head) fault
tracks_fail limit custom head admitted fault known refused =
    fails_after (systems_known limit custom (systems_named head.alphabets)) (λ log. after_admission custom head log) admitted fault known
    (fails_first (Pure (TracksAnswers custom head.alphabets)) (λ ts. after_tracks admitted custom head.name head.body ts) fault refused)

-- an accepted `reg` is under its name among the automata
record IsAt (head : RegHead) (success : Success) : Type 0 where
  folder : Automata ≡ success.folder
  name : head.name ≡ success.name

folder_and_name_at : (limit : ℕ) (custom : Custom) (head : RegHead) (success : Success) → (after_head limit custom head).answers (Ok success) → IsAt head success
folder_and_name_at limit custom head success (admitted, known, (tracks, means, (pattern, parses, (lines, steps, (is, text))))) = record { folder = sym (ap (λ (s : Success). s.folder) is); name = sym (ap (λ (s : Success). s.name) is) }

-- a `reg` whose head is this one
pub reg_changed : (limit : ℕ) (ledger : Ledger) (text : List ℕ) (shown : Bool) (head : RegHead) (change : FileChange) → reg_at text ≡ Ok head → change.folder ≡ Automata → change.name ≡ head.name → Makes (custom_of ledger) (after_head limit (custom_of ledger) head) shown (Ok change.made)
    → ChangesFile (custom_of ledger) (reg_checks limit ledger text) shown (Ok change)
reg_changed limit ledger text shown head change read folder name made =
    let at : IsAt head made.success = folder_and_name_at limit (custom_of ledger) head made.success made.answers in
    changes_after (custom_of ledger) (Pure (HeadAnswers DerivesReg text)) (λ h. after_head limit (custom_of ledger) h) head shown (Ok change) (spelled text head read) (record { made = made; folder_is = folder ∙ at.folder; name_is = name ∙ at.name })

pub reg_failed : (limit : ℕ) (ledger : Ledger) (text : List ℕ) (shown : Bool) (head : RegHead) (fault : Fault) → reg_at text ≡ Ok head → Fails (after_head limit (custom_of ledger) head) fault → Fails (reg_checks limit ledger text) fault
reg_failed limit ledger text shown head fault read refused = changes_after (custom_of ledger) (Pure (HeadAnswers DerivesReg text)) (λ h. after_head limit (custom_of ledger) h) head shown (Err fault) (spelled text head read) refused
