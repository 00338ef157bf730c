-- What a `promote` does, by its checks in their order: the shape of its head, the file of the morphism, that the morphism has a fixed point,
-- the step, and the length of the text to store.
use Rattle.std.specs.Prelude.{◌≡◌, ℕ, List, None, Result, Ok, Err}
use Rattle.digit_tuple.specs.Steps.{StepLog}
use Rattle.digit_tuple.specs.declared.steps.StepLine.{StepLine}
use Rattle.wal_outside.specs.declared.folder.Folder.TheVariants.{Words}
use Rattle.command_head.specs.Grammar.{DerivesPromote}
use Rattle.command_head.specs.Heads.{PromoteHead}
use Rattle.fixed_points.specs.Promotion.{DoesPromote}
use Rattle.morph_words.specs.Rules.{Rules}
use Rattle.word_output.specs.Words.{WordValue}
use Rattle.definitions.specs.Trees.{Defined, Fixed, Ledger, custom_of}
use Rattle.system_files.specs.SystemFiles.{Custom}
use Rattle.command_parts.specs.declared.refusal.Refusal.{Refusal}
use Rattle.command_parts.specs.declared.fault.Fault.TheVariants as faults
use Rattle.command_parts.specs.Accepting.{Success, stored}
use Rattle.command_parts.specs.Checks.{Check, Pure, Then, IsSingle}
use Rattle.command_parts.specs.HeadAnswers.{HeadAnswers}
use Rattle.word_commands.specs.MorphismChecks.{morphism_loaded}
use Rattle.command_parts.specs.MorphismFaults.{fault_of_promotion}
use Rattle.fixed_points.specs.declared.promote_fault.PromoteFault.{PromoteFault}
use Rattle.system_admission.specs.SystemSteps.{no_steps}

-- the line of the step; or why the morphism has no fixed point, or the number of the step where it passes a limit
abbrev pub PromotedAnswers : ℕ → Rules → Result (List StepLine) Refusal → Type 0
PromotedAnswers limit rules (Ok lines) = (word : WordValue) × (log : StepLog) × DoesPromote rules (no_steps limit) (Ok word) log × (lines ≡ log.lines)
PromotedAnswers limit rules (Err refusal) = (fault : PromoteFault) × (fault_of_promotion fault ≡ faults.Refused refusal) × ((log : StepLog) × DoesPromote rules (no_steps limit) (Err fault) log)

-- the checks after the morphism: its fixed point is stored
abbrev pub after_morphism : ℕ → Custom → List ℕ → Rules → Check Success
after_morphism limit custom name rules =
    Then (Pure (PromotedAnswers limit rules)) (λ lines.
    stored custom (record { folder = Words; name = name; entry = Defined (Fixed rules); lines = lines; verdict = None }))

-- all checks of a `promote`
abbrev pub promote_checks : ℕ → Ledger → List ℕ → Check Success
promote_checks limit ledger text =
    Then (Pure (HeadAnswers DerivesPromote text)) (λ (head : PromoteHead).
    Then (morphism_loaded ledger head.morphism) (λ rules. after_morphism limit (custom_of ledger) head.word rules))

-- a `promote` has at most one proper outcome
abbrev pub PromoteHasOneOutcome : Type 0
PromoteHasOneOutcome = (limit : ℕ) (ledger : Ledger) (text : List ℕ) → IsSingle (promote_checks limit ledger text)
