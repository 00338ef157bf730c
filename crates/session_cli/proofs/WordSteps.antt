-- From the checks of a command of its word to all checks of a command.
use Rattle.std.proofs.Common.{◌≡◌, ◌≢◌, ℕ, ◌<◌, ◌≤◌, Bool, List, length, Result, refl, subst}
use Rattle.wal_outside.specs.declared.folder.Folder.{Folder}
use Rattle.command_head.specs.Parts.{first_word_of}
use Rattle.command_parts.specs.declared.text_refusal.TextRefusal.TheVariants as text_refusals
use Rattle.command_parts.specs.declared.refusal.Refusal.TheVariants as refusals
use Rattle.command_parts.specs.declared.fault.Fault.{Fault}
use Rattle.command_parts.specs.declared.fault.Fault.TheVariants as faults
use Rattle.command_parts.specs.declared.file_change.Action.{Action}
use Rattle.command_parts.specs.declared.file_change.FileChange.{FileChange}
use Rattle.session_cli.specs.declared.actions.CommandWord.{CommandWord}
use Rattle.command_parts.specs.Checks.{Pure, Fails}
use Rattle.definitions.specs.Trees.{Ledger, custom_of}
use Rattle.session_cli.specs.Outcomes.{LengthAnswers, WordAnswers, word_text, checks_by, after_length, checks_of}
use Rattle.formula_commands.specs.FormulaOutcomes.{formula_checks}
use Rattle.command_parts.specs.FileChanges.{ChangesFile, Acts}
use Rattle.command_parts.specs.declared.step_options.StepOptions.{StepOptions}
use Rattle.command_parts.proofs.CheckSteps.{fails_first, fails_after}
use Rattle.session_cli.proofs.ActionSteps.{acts_after}

-- what the checks of a short command of this word give, all its checks give
pub acted_by_word : (word : CommandWord) (limit : ℕ) (ledger : Ledger) (text : List ℕ) (shown : Bool) (result : Result Action Fault) → length text ≤ 65536 → first_word_of text ≡ word_text word
    → Acts (custom_of ledger) (checks_by word limit ledger text) shown result → Acts (custom_of ledger) (checks_of limit ledger text) shown result
acted_by_word word limit ledger text shown result short is acts =
    acts_after (custom_of ledger) (Pure (LengthAnswers text)) (λ done. after_length limit ledger text) tt shown result short
    (acts_after (custom_of ledger) (Pure (WordAnswers text)) (λ w. checks_by w limit ledger text) word shown result is acts)

-- what a formula's command with these parts gives
pub change_of_formula : (word at : List ℕ) (folder to : Folder) (options these : StepOptions) (ledger : Ledger) (text : List ℕ) (result : Result FileChange Fault) → word ≡ at → folder ≡ to → options ≡ these → ChangesFile (custom_of ledger) (formula_checks word folder options.limit ledger text) options.shown result
    → ChangesFile (custom_of ledger) (formula_checks at to these.limit ledger text) these.shown result
change_of_formula word at folder to options these ledger text result words folders same changes =
    subst (λ (o : StepOptions). ChangesFile (custom_of ledger) (formula_checks at to o.limit ledger text) o.shown result) same
    (subst (λ (f : Folder). ChangesFile (custom_of ledger) (formula_checks at f options.limit ledger text) options.shown result) folders (subst (λ (w : List ℕ). ChangesFile (custom_of ledger) (formula_checks w folder options.limit ledger text) options.shown result) words changes))

-- a command that is too long, and one whose first word is none
pub too_long : (limit : ℕ) (ledger : Ledger) (text : List ℕ) → 65536 < length text → Fails (checks_of limit ledger text) (faults.Refused (refusals.Text (text_refusals.Long 65536)))
too_long limit ledger text long = fails_first (Pure (LengthAnswers text)) (λ done. after_length limit ledger text) (faults.Refused (refusals.Text (text_refusals.Long 65536))) (refl, long)

pub no_word : (limit : ℕ) (ledger : Ledger) (text : List ℕ) → length text ≤ 65536 → ((word : CommandWord) → first_word_of text ≢ word_text word) → Fails (checks_of limit ledger text) (faults.Refused (refusals.Text text_refusals.Command))
no_word limit ledger text short none =
    fails_after (Pure (LengthAnswers text)) (λ done. after_length limit ledger text) tt (faults.Refused (refusals.Text text_refusals.Command)) short
    (fails_first (Pure (WordAnswers text)) (λ word. checks_by word limit ledger text) (faults.Refused (refusals.Text text_refusals.Command)) (refl, none))
