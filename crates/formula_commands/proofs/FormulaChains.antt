-- From what each part of the code makes of a formula to what all checks of its command make.
use Rattle.std.proofs.Common.{◌≡◌, ℕ, Bool, List, Result, Ok, Err, sym, ap, ◌∙◌, refl}
use Rattle.wal_outside.specs.Places.{Place}
use Rattle.wal_outside.specs.declared.folder.Folder.{Folder}
use Rattle.digit_tuple.specs.Steps.{StepLog}
use Rattle.digit_tuple.specs.declared.steps.StepLine.{StepLine}
use Rattle.command_head.specs.Heads.{NamedHead}
use Rattle.command_head.specs.Grammar.{DerivesNamed}
use Rattle.command_head.specs.Breaks.{HasHead}
use Rattle.command_head.specs.declared.fault.HeadFault.{HeadFault}
use Rattle.formula_parse.specs.Trees as trees
use Rattle.command_parts.specs.declared.fault.Fault.{Fault}
use Rattle.command_parts.specs.declared.file_change.Made.{Made}
use Rattle.command_parts.specs.declared.file_change.FileChange.{FileChange}
use Rattle.command_parts.specs.Checks.{Pure, Fails}
use Rattle.definitions.specs.Trees.{Variable, Ledger, custom_of}
use Rattle.dfa_loading.specs.declared.loaded.Loaded.{Loaded}
use Rattle.command_parts.specs.Accepting.{Success}
use Rattle.command_parts.specs.HeadAnswers.{HeadAnswers, fault_of_head}
use Rattle.formula_commands.specs.FormulaOutcomes.{FormulaAnswers, ResolvedAnswers, BuiltAnswers, bindings_now, after_systems, after_tables, after_text, after_named_head, formula_checks}
use Rattle.formula_commands.specs.MacroChecks.{ExpandedAnswers, expanded}
use Rattle.command_parts.specs.SystemChecks.{SystemsAnswers, systems_known}
use Rattle.command_parts.specs.FileChanges.{Makes, ChangesFile}
use Rattle.formula_commands.proofs.FormulaCheckNames.{loaded, mentioned_systems, VariablesAnswers, after_variables, after_steps, after_resolution, after_formula}
use Rattle.command_parts.proofs.CheckSteps.{fails_first, fails_after, makes_after, changes_after}
use Rattle.command_parts.proofs.HeadSteps.{head_unread}

-- where the head breaks the grammar
pub named_broken : (word : List ℕ) (folder : Folder) (limit : ℕ) (ledger : Ledger) (text : List ℕ) (fault : HeadFault) → HasHead (DerivesNamed word) (λ (h : NamedHead). h) text (Err fault) → Fails (formula_checks word folder limit ledger text) (fault_of_head fault)
named_broken word folder limit ledger text fault breaks = fails_first (Pure (HeadAnswers (DerivesNamed word) text)) (λ head. after_named_head limit ledger folder head) (fault_of_head fault) (head_unread (DerivesNamed word) (λ (h : NamedHead). h) text fault breaks)

-- what is accepted is under the head's name
record IsAt (folder : Folder) (head : NamedHead) (success : Success) : Type 0 where
  folder_is : folder ≡ success.folder
  name_is : head.name ≡ success.name

folder_and_name_at : (limit : ℕ) (ledger : Ledger) (folder : Folder) (head : NamedHead) (success : Success) → (after_named_head limit ledger folder head).answers (Ok success) → IsAt folder head success
folder_and_name_at limit ledger folder head success (expansion, expands, (formula, reads, (tables, files, (admitted, systems, (done, resolves, (lines, builds, (variables, are, (verdict, says, (is, text))))))))) = record {
  folder_is = sym (ap (λ (s : Success). s.folder) is);
  name_is = sym (ap (λ (s : Success). s.name) is);
}

-- a command whose head is this one
pub named_changed : (word : List ℕ) (folder : Folder) (limit : ℕ) (ledger : Ledger) (text : List ℕ) (shown : Bool) (head : NamedHead) (change : FileChange) → HasHead (DerivesNamed word) (λ (h : NamedHead). h) text (Ok head) → change.folder ≡ folder → change.name ≡ head.name
    → Makes (custom_of ledger) (after_named_head limit ledger folder head) shown (Ok change.made) → ChangesFile (custom_of ledger) (formula_checks word folder limit ledger text) shown (Ok change)
named_changed word folder limit ledger text shown head change spells folder_is name_is made =
    let at : IsAt folder head made.success = folder_and_name_at limit ledger folder head made.success made.answers in
    changes_after (custom_of ledger) (Pure (HeadAnswers (DerivesNamed word) text)) (λ h. after_named_head limit ledger folder h) head shown (Ok change) spells (record { made = made; folder_is = folder_is ∙ at.folder_is; name_is = name_is ∙ at.name_is })

pub named_failed : (word : List ℕ) (folder : Folder) (limit : ℕ) (ledger : Ledger) (text : List ℕ) (shown : Bool) (head : NamedHead) (fault : Fault) → HasHead (DerivesNamed word) (λ (h : NamedHead). h) text (Ok head)
    → Fails (after_named_head limit ledger folder head) fault → ChangesFile (custom_of ledger) (formula_checks word folder limit ledger text) shown (Err fault)
named_failed word folder limit ledger text shown head fault spells refused = changes_after (custom_of ledger) (Pure (HeadAnswers (DerivesNamed word) text)) (λ h. after_named_head limit ledger folder h) head shown (Err fault) spells refused

-- a call of a macro is not expanded
pub head_unexpanded : (limit : ℕ) (ledger : Ledger) (folder : Folder) (head : NamedHead) (fault : Fault) → Fails (expanded ledger head.body) fault → Fails (after_named_head limit ledger folder head) fault
head_unexpanded limit ledger folder head fault refused = fails_first (expanded ledger head.body) (λ text. after_text limit ledger (folder, head.name) text) fault refused

-- what is made of the expanded text
pub head_expanded : (limit : ℕ) (ledger : Ledger) (folder : Folder) (head : NamedHead) (text : List ℕ) (shown : Bool) (result : Result Made Fault) → ExpandedAnswers ledger head.body (Ok text) → Makes (custom_of ledger) (after_text limit ledger (folder, head.name) text) shown result
    → Makes (custom_of ledger) (after_named_head limit ledger folder head) shown result
head_expanded limit ledger folder head text shown result there makes = makes_after (custom_of ledger) (expanded ledger head.body) (λ t. after_text limit ledger (folder, head.name) t) text shown result there makes

-- the formula breaks its grammar
pub text_unparsed : (limit : ℕ) (ledger : Ledger) (place : Place) (text : List ℕ) (fault : Fault) → Fails (Pure (FormulaAnswers text)) fault → Fails (after_text limit ledger place text) fault
text_unparsed limit ledger place text fault refused = fails_first (Pure (FormulaAnswers text)) (λ f. after_formula limit ledger place f) fault refused

-- what is made of a formula that was read
pub text_parsed : (limit : ℕ) (ledger : Ledger) (place : Place) (text : List ℕ) (formula : trees.Formula) (shown : Bool) (result : Result Made Fault) → FormulaAnswers text (Ok formula) → Makes (custom_of ledger) (after_formula limit ledger place formula) shown result → Makes (custom_of ledger) (after_text limit ledger place text) shown result
text_parsed limit ledger place text formula shown result reads makes = makes_after (custom_of ledger) (Pure (FormulaAnswers text)) (λ f. after_formula limit ledger place f) formula shown result reads makes

-- its files are not loaded
pub formula_unloaded : (limit : ℕ) (ledger : Ledger) (place : Place) (formula : trees.Formula) (fault : Fault) → Fails (loaded ledger formula) fault → Fails (after_formula limit ledger place formula) fault
formula_unloaded limit ledger place formula fault refused = fails_first (loaded ledger formula) (λ tables. after_tables limit ledger place formula tables) fault refused

-- what is made of it where they are
pub formula_loaded : (limit : ℕ) (ledger : Ledger) (place : Place) (formula : trees.Formula) (tables : List Loaded) (shown : Bool) (result : Result Made Fault) → (loaded ledger formula).answers (Ok tables) → Makes (custom_of ledger) (after_tables limit ledger place formula tables) shown result
    → Makes (custom_of ledger) (after_formula limit ledger place formula) shown result
formula_loaded limit ledger place formula tables shown result there makes = makes_after (custom_of ledger) (loaded ledger formula) (λ ts. after_tables limit ledger place formula ts) tables shown result there makes

-- a system that it mentions is refused
pub tables_refused : (limit : ℕ) (ledger : Ledger) (place : Place) (formula : trees.Formula) (tables : List Loaded) (fault : Fault) → Fails (systems_known limit (custom_of ledger) (mentioned_systems tables formula)) fault → Fails (after_tables limit ledger place formula tables) fault
tables_refused limit ledger place formula tables fault refused = fails_first (systems_known limit (custom_of ledger) (mentioned_systems tables formula)) (λ admitted. after_systems ledger place tables formula admitted) fault refused

-- what is made of it where its systems are known
pub tables_known : (limit : ℕ) (ledger : Ledger) (place : Place) (formula : trees.Formula) (tables : List Loaded) (admitted : StepLog) (shown : Bool) (result : Result Made Fault) → SystemsAnswers limit (custom_of ledger) (mentioned_systems tables formula) (Ok admitted)
    → Makes (custom_of ledger) (after_systems ledger place tables formula admitted) shown result → Makes (custom_of ledger) (after_tables limit ledger place formula tables) shown result
tables_known limit ledger place formula tables admitted shown result known makes =
    makes_after (custom_of ledger) (systems_known limit (custom_of ledger) (mentioned_systems tables formula)) (λ log. after_systems ledger place tables formula log) admitted shown result known makes

-- it has no resolution
pub systems_unresolved : (admitted : StepLog) (ledger : Ledger) (place : Place) (tables : List Loaded) (formula : trees.Formula) (fault : Fault) → Fails (Pure (ResolvedAnswers tables formula)) fault → Fails (after_systems ledger place tables formula admitted) fault
systems_unresolved admitted ledger place tables formula fault refused = fails_first (Pure (ResolvedAnswers tables formula)) (λ done. after_resolution admitted ledger place tables formula) fault refused

-- a step passes a limit
pub resolved_unbuilt : (admitted : StepLog) (ledger : Ledger) (place : Place) (tables : List Loaded) (formula : trees.Formula) (fault : Fault) → ResolvedAnswers tables formula (Ok tt) → Fails (Pure (BuiltAnswers admitted (custom_of ledger) tables formula)) fault → Fails (after_systems ledger place tables formula admitted) fault
resolved_unbuilt admitted ledger place tables formula fault resolves refused =
    fails_after (Pure (ResolvedAnswers tables formula)) (λ done. after_resolution admitted ledger place tables formula) tt fault resolves
    (fails_first (Pure (BuiltAnswers admitted (custom_of ledger) tables formula)) (λ lines. after_steps ledger place tables formula lines) fault refused)

-- what is made of it where its steps were done
pub steps_made : (admitted : StepLog) (ledger : Ledger) (place : Place) (tables : List Loaded) (formula : trees.Formula) (variables : List Variable) (lines : List StepLine) (shown : Bool) (result : Result Made Fault) → ResolvedAnswers tables formula (Ok tt)
    → BuiltAnswers admitted (custom_of ledger) tables formula (Ok lines) → VariablesAnswers (custom_of ledger) tables formula (Ok variables) → Makes (custom_of ledger) (after_variables (custom_of ledger) place (bindings_now ledger formula) formula lines variables) shown result
    → Makes (custom_of ledger) (after_systems ledger place tables formula admitted) shown result
steps_made admitted ledger place tables formula variables lines shown result resolves builds are makes =
    makes_after (custom_of ledger) (Pure (ResolvedAnswers tables formula)) (λ done. after_resolution admitted ledger place tables formula) tt shown result resolves
    (makes_after (custom_of ledger) (Pure (BuiltAnswers admitted (custom_of ledger) tables formula)) (λ ls. after_steps ledger place tables formula ls) lines shown result builds
    (makes_after (custom_of ledger) (Pure (VariablesAnswers (custom_of ledger) tables formula)) (λ vs. after_variables (custom_of ledger) place (bindings_now ledger formula) formula lines vs) variables shown result are makes))
