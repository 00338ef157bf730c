-- From the head of a `macro` and of a `morphism` to what it stores.
use Rattle.std.proofs.Common.{◌≡◌, ℕ, Bool, List, codes, Result, Ok, Err, inl, inr, refl, sym, ap, ◌∙◌}
use Rattle.wal_outside.specs.Places.{Place}
use Rattle.wal_outside.specs.declared.folder.Folder.TheVariants.{Macros, Morphisms}
use Rattle.command_head.specs.Breaks.{HasHead}
use Rattle.command_head.specs.Grammar.{DerivesNamed}
use Rattle.command_head.specs.Heads.{NamedHead}
use Rattle.morph_words.specs.Faults.{Parses}
use Rattle.morph_words.specs.Printed.{printed}
use Rattle.morph_words.specs.Rules.{Rules}
use Rattle.morph_words.specs.declared.fault.RulesFault.{RulesFault}
use Rattle.morph_words.specs.declared.fault.RulesFault.TheVariants as rules_faults
use Rattle.definitions.specs.Trees.{Ledger, custom_of}
use Rattle.system_files.specs.SystemFiles.{Custom}
use Rattle.command_parts.specs.declared.fault.Fault.{Fault}
use Rattle.command_parts.specs.declared.file_change.Made.{Made}
use Rattle.command_parts.specs.declared.file_change.FileChange.{FileChange}
use Rattle.command_parts.specs.Accepting.{Success, stored}
use Rattle.command_parts.specs.Checks.{Pure, Fails}
use Rattle.command_parts.specs.HeadAnswers.{HeadAnswers}
use Rattle.command_parts.specs.MorphismFaults.{fault_of_rules}
use Rattle.command_parts.specs.FileChanges.{IsMade, Makes, ChangesFile}
use Rattle.session_cli.specs.TextOutcomes.{RulesAnswers, after_rules_head, macro_checks, morphism_checks}
use Rattle.command_parts.specs.TextChanges.{IsTextRefused, StoresText}
use Rattle.command_parts.proofs.TextCheckNames.{text_success}
use Rattle.command_parts.proofs.CheckSteps.{fails_first, fails_after, makes_after, changes_after}
use Rattle.command_parts.proofs.StoringTexts.{text_stored, unstored}

-- what is in the quotes of a `macro` is stored
pub macro_changed : (ledger : Ledger) (text : List ℕ) (shown : Bool) (head : NamedHead) (change : FileChange) → HasHead (DerivesNamed (codes "macro")) (λ (h : NamedHead). h) text (Ok head) → change.folder ≡ Macros → change.name ≡ head.name → StoresText head.body (Ok change.made)
    → ChangesFile (custom_of ledger) (macro_checks ledger text) shown (Ok change)
macro_changed ledger text shown head change spells folder name stores =
    let made : IsMade (custom_of ledger) (stored (custom_of ledger) (text_success Macros head.name head.body)) shown change.made = text_stored (custom_of ledger) Macros head.name head.body shown (Ok change.made) stores in
    changes_after (custom_of ledger) (Pure (HeadAnswers (DerivesNamed (codes "macro")) text)) (λ (h : NamedHead). stored (custom_of ledger) (text_success Macros h.name h.body)) head shown (Ok change) spells
    (record { made = made; folder_is = folder ∙ sym (ap (λ (s : Success). s.folder) made.answers.0); name_is = name ∙ sym (ap (λ (s : Success). s.name) made.answers.0) })

pub macro_failed : (ledger : Ledger) (text : List ℕ) (head : NamedHead) (fault : Fault) → HasHead (DerivesNamed (codes "macro")) (λ (h : NamedHead). h) text (Ok head) → IsTextRefused head.body fault → Fails (macro_checks ledger text) fault
macro_failed ledger text head fault spells refused =
    fails_after (Pure (HeadAnswers (DerivesNamed (codes "macro")) text)) (λ (h : NamedHead). stored (custom_of ledger) (text_success Macros h.name h.body)) head fault spells
    (unstored (custom_of ledger) (text_success Macros head.name head.body) head.body fault refl refused)

pub macro_unread : (ledger : Ledger) (text : List ℕ) (fault : Fault) → Fails (Pure (HeadAnswers (DerivesNamed (codes "macro")) text)) fault → Fails (macro_checks ledger text) fault
macro_unread ledger text fault refused = fails_first (Pure (HeadAnswers (DerivesNamed (codes "macro")) text)) (λ (h : NamedHead). stored (custom_of ledger) (text_success Macros h.name h.body)) fault refused

-- it reads no file
pub macro_reads_none : (ledger : Ledger) (text : List ℕ) (place : Place) → (macro_checks ledger text).reads place → ⊥
macro_reads_none ledger text place (inl read) = read
macro_reads_none ledger text place (inr (head, spells, read)) = read

-- where rules break their grammar
pub rules_unread : (body : List ℕ) (fault : RulesFault) → Parses body (Err fault) → Fails (Pure (RulesAnswers body)) (fault_of_rules fault)
rules_unread body (rules_faults.Syntax at) breaks = (rules_faults.Syntax at, refl, breaks)
rules_unread body (rules_faults.Number at) breaks = (rules_faults.Number at, refl, breaks)
rules_unread body rules_faults.Memory breaks = tt

-- what is made of the rules of a `morphism`
pub rules_stored : (custom : Custom) (head : NamedHead) (rules : Rules) (shown : Bool) (result : Result Made Fault) → Parses head.body (Ok rules) → StoresText (printed rules) result → Makes custom (after_rules_head custom head) shown result
rules_stored custom head rules shown result parses stores =
    makes_after custom (Pure (RulesAnswers head.body)) (λ (rs : Rules). stored custom (text_success Morphisms head.name (printed rs))) rules shown result parses (text_stored custom Morphisms head.name (printed rules) shown result stores)

pub rules_refused : (custom : Custom) (head : NamedHead) (fault : Fault) → Fails (Pure (RulesAnswers head.body)) fault → Fails (after_rules_head custom head) fault
rules_refused custom head fault refused = fails_first (Pure (RulesAnswers head.body)) (λ (rs : Rules). stored custom (text_success Morphisms head.name (printed rs))) fault refused

-- an accepted `morphism` is under its name among the morphisms
folder_and_name_at : (custom : Custom) (head : NamedHead) (success : Success) → (after_rules_head custom head).answers (Ok success) → (Morphisms ≡ success.folder) × (head.name ≡ success.name)
folder_and_name_at custom head success (rules, parses, (is, text)) = (sym (ap (λ (s : Success). s.folder) is), sym (ap (λ (s : Success). s.name) is))

pub morphism_changed : (ledger : Ledger) (text : List ℕ) (shown : Bool) (head : NamedHead) (change : FileChange) → HasHead (DerivesNamed (codes "morphism")) (λ (h : NamedHead). h) text (Ok head) → change.folder ≡ Morphisms → change.name ≡ head.name
    → Makes (custom_of ledger) (after_rules_head (custom_of ledger) head) shown (Ok change.made) → ChangesFile (custom_of ledger) (morphism_checks ledger text) shown (Ok change)
morphism_changed ledger text shown head change spells folder name made =
    let at : (Morphisms ≡ made.success.folder) × (head.name ≡ made.success.name) = folder_and_name_at (custom_of ledger) head made.success made.answers in
    changes_after (custom_of ledger) (Pure (HeadAnswers (DerivesNamed (codes "morphism")) text)) (λ h. after_rules_head (custom_of ledger) h) head shown (Ok change) spells (record { made = made; folder_is = folder ∙ at.0; name_is = name ∙ at.1 })

pub morphism_failed : (ledger : Ledger) (text : List ℕ) (head : NamedHead) (fault : Fault) → HasHead (DerivesNamed (codes "morphism")) (λ (h : NamedHead). h) text (Ok head) → Fails (after_rules_head (custom_of ledger) head) fault → Fails (morphism_checks ledger text) fault
morphism_failed ledger text head fault spells refused = fails_after (Pure (HeadAnswers (DerivesNamed (codes "morphism")) text)) (λ h. after_rules_head (custom_of ledger) h) head fault spells refused

pub morphism_unread : (ledger : Ledger) (text : List ℕ) (fault : Fault) → Fails (Pure (HeadAnswers (DerivesNamed (codes "morphism")) text)) fault → Fails (morphism_checks ledger text) fault
morphism_unread ledger text fault refused = fails_first (Pure (HeadAnswers (DerivesNamed (codes "morphism")) text)) (λ h. after_rules_head (custom_of ledger) h) fault refused

pub morphism_reads_none : (ledger : Ledger) (text : List ℕ) (place : Place) → (morphism_checks ledger text).reads place → ⊥
morphism_reads_none ledger text place (inl read) = read
morphism_reads_none ledger text place (inr (head, spells, inl read)) = read
morphism_reads_none ledger text place (inr (head, spells, inr (rules, parses, read))) = read
