-- From the head of a `promote` to what it stores.
use Rattle.std.proofs.Common.{◌≡◌, ℕ, Bool, List, [], ◌∷◌, Ok, Err, inl, inr, refl, sym, ap, ◌∙◌, subst}
use Rattle.std.specs.Int.{w32}
use Rattle.std.specs.List.{All}
use Rattle.std.specs.Prelude.{FitsSigned}
use Rattle.std.proofs.lemmas.List.{append-nil}
use Rattle.wal_outside.specs.Places.{Place}
use Rattle.wal_outside.specs.declared.folder.Folder.TheVariants.{Words}
use Rattle.command_head.specs.Breaks.{HasHead}
use Rattle.command_head.specs.Grammar.{DerivesPromote}
use Rattle.command_head.specs.Heads.{PromoteHead}
use Rattle.digit_tuple.specs.Steps.{StepLog}
use Rattle.digit_tuple.specs.declared.step_fault.StepFault.TheVariants as steps
use Rattle.fixed_points.specs.Promotion.{DoesPromote}
use Rattle.fixed_points.specs.declared.promote_fault.PromoteFault.{PromoteFault}
use Rattle.fixed_points.specs.declared.promote_fault.PromoteFault.TheVariants as promotes
use Rattle.morph_words.specs.Rules.{Rules}
use Rattle.word_output.specs.Words.{WordValue}
use Rattle.definitions.specs.Texts.{IsFixedText}
use Rattle.definitions.specs.Trees.{Ledger, custom_of}
use Rattle.system_files.specs.SystemFiles.{Custom}
use Rattle.command_parts.specs.declared.fault.Fault.{Fault}
use Rattle.command_parts.specs.declared.file_change.Made.{Made}
use Rattle.command_parts.specs.declared.file_change.FileChange.{FileChange}
use Rattle.command_parts.specs.Accepting.{Success, stored}
use Rattle.word_commands.specs.BaseWords.{base_name}
use Rattle.command_parts.specs.Checks.{Pure, Fails}
use Rattle.command_parts.specs.HeadAnswers.{HeadAnswers}
use Rattle.command_parts.specs.Lines.{shown_steps}
use Rattle.word_commands.specs.MorphismChecks.{MorphismAnswers, morphism_loaded}
use Rattle.command_parts.specs.MorphismFaults.{fault_of_promotion}
use Rattle.command_parts.specs.FileChanges.{IsMade, Makes, ChangesFile}
use Rattle.word_commands.specs.PromoteOutcomes.{PromotedAnswers, after_morphism, promote_checks}
use Rattle.system_admission.specs.SystemSteps.{no_steps}
use Rattle.command_parts.specs.WordPrinting.{IsWordTextOf, HasNoWordText, named_text}
use Rattle.word_commands.proofs.PromoteCheckNames.{fixed_success, after_promote_head}
use Rattle.word_commands.proofs.BaseTexts.{fixed_text}
use Rattle.command_parts.proofs.CheckSteps.{fails_first, fails_after, changes_after}
use Rattle.command_parts.proofs.StoringTexts.{unstored, word_refused}

-- what has no fixed point, or passes a limit
pub not_promoted : (limit : ℕ) (rules : Rules) (fault : PromoteFault) (log : StepLog) → DoesPromote rules (no_steps limit) (Err fault) log → Fails (Pure (PromotedAnswers limit rules)) (fault_of_promotion fault)
not_promoted limit rules (promotes.Morphism kind) log refused = (promotes.Morphism kind, refl, (log, refused))
not_promoted limit rules (promotes.Step (steps.Letters step)) log refused = (promotes.Step (steps.Letters step), refl, (log, refused))
not_promoted limit rules (promotes.Step (steps.States step)) log refused = (promotes.Step (steps.States step), refl, (log, refused))
not_promoted limit rules (promotes.Step steps.Memory) log refused = tt

pub promotion_refused : (limit : ℕ) (custom : Custom) (name : List ℕ) (rules : Rules) (fault : Fault) → Fails (Pure (PromotedAnswers limit rules)) fault → Fails (after_morphism limit custom name rules) fault
promotion_refused limit custom name rules fault refused = fails_first (Pure (PromotedAnswers limit rules)) (λ lines. stored custom (fixed_success name rules lines)) fault refused

module _ (limit : ℕ) (custom : Custom) (name : List ℕ) (rules : Rules) (word : WordValue) (log : StepLog) (done : DoesPromote rules (no_steps limit) (Ok word) log) (fits : All (λ letter. FitsSigned w32 letter) word.function.letters) where
  has_text : IsFixedText custom rules (named_text (base_name done.0 ∷ []) word)
  has_text = fixed_text custom rules done.0 word done.1 done.2.step.made_is fits

  -- the text of the word is too long
  pub fixed_refused : (fault : Fault) → HasNoWordText (base_name done.0 ∷ []) word fault → Fails (after_morphism limit custom name rules) fault
  fixed_refused fault refused =
      fails_after (Pure (PromotedAnswers limit rules)) (λ lines. stored custom (fixed_success name rules lines)) log.lines fault (word, log, done, refl)
      (unstored custom (fixed_success name rules log.lines) (named_text (base_name done.0 ∷ []) word) fault has_text (word_refused (base_name done.0 ∷ []) word fault refused))

  -- or it is stored
  pub fixed_made : (shown : Bool) (made : Made) → IsWordTextOf (base_name done.0 ∷ []) word made.stored.items → made.printed ≡ shown_steps shown log.lines → IsMade custom (after_morphism limit custom name rules) shown made
  fixed_made shown made text printed =
      let has : IsFixedText custom rules made.stored.items = subst (λ (t : List ℕ). IsFixedText custom rules t) (sym text.0) has_text in
      record {
        success = fixed_success name rules log.lines;
        answers = (log.lines, (word, log, done, refl), (refl, (made.stored.items, has, text.1)));
        has_text = has;
        printed_is = printed ∙ sym (append-nil (shown_steps shown log.lines));
      }

-- nothing is read after the morphism
pub no_more_read : (limit : ℕ) (custom : Custom) (name : List ℕ) (rules : Rules) (place : Place) → (after_morphism limit custom name rules).reads place → ⊥
no_more_read limit custom name rules place (inl read) = read
no_more_read limit custom name rules place (inr (lines, promoted, read)) = read

-- an accepted `promote` is under the word's name among words
folder_and_name_at : (limit : ℕ) (custom : Custom) (name : List ℕ) (rules : Rules) (success : Success) → (after_morphism limit custom name rules).answers (Ok success) → (Words ≡ success.folder) × (name ≡ success.name)
folder_and_name_at limit custom name rules success (lines, promoted, (is, text)) = (sym (ap (λ (s : Success). s.folder) is), sym (ap (λ (s : Success). s.name) is))

module _ (limit : ℕ) (ledger : Ledger) (text : List ℕ) where
  pub promote_unread : (fault : Fault) → Fails (Pure (HeadAnswers DerivesPromote text)) fault → Fails (promote_checks limit ledger text) fault
  promote_unread fault refused = fails_first (Pure (HeadAnswers DerivesPromote text)) (λ h. after_promote_head limit ledger h) fault refused

  module _ (head : PromoteHead) (spells : HasHead DerivesPromote (λ (h : PromoteHead). h) text (Ok head)) where
    pub promote_unloaded : (fault : Fault) → Fails (morphism_loaded ledger head.morphism) fault → Fails (promote_checks limit ledger text) fault
    promote_unloaded fault refused =
        fails_after (Pure (HeadAnswers DerivesPromote text)) (λ h. after_promote_head limit ledger h) head fault spells
        (fails_first (morphism_loaded ledger head.morphism) (λ rules. after_morphism limit (custom_of ledger) head.word rules) fault refused)

    pub promote_failed : (rules : Rules) (fault : Fault) → MorphismAnswers ledger head.morphism (Ok rules) → Fails (after_morphism limit (custom_of ledger) head.word rules) fault → Fails (promote_checks limit ledger text) fault
    promote_failed rules fault there refused =
        fails_after (Pure (HeadAnswers DerivesPromote text)) (λ h. after_promote_head limit ledger h) head fault spells
        (fails_after (morphism_loaded ledger head.morphism) (λ rs. after_morphism limit (custom_of ledger) head.word rs) rules fault there refused)

    pub promote_changed : (rules : Rules) (shown : Bool) (change : FileChange) → MorphismAnswers ledger head.morphism (Ok rules) → change.folder ≡ Words → change.name ≡ head.word → Makes (custom_of ledger) (after_morphism limit (custom_of ledger) head.word rules) shown (Ok change.made)
        → ChangesFile (custom_of ledger) (promote_checks limit ledger text) shown (Ok change)
    promote_changed rules shown change there folder name made =
        let at : (Words ≡ made.success.folder) × (head.word ≡ made.success.name) = folder_and_name_at limit (custom_of ledger) head.word rules made.success made.answers in
        changes_after (custom_of ledger) (Pure (HeadAnswers DerivesPromote text)) (λ h. after_promote_head limit ledger h) head shown (Ok change) spells
        (changes_after (custom_of ledger) (morphism_loaded ledger head.morphism) (λ rs. after_morphism limit (custom_of ledger) head.word rs) rules shown (Ok change) there (record { made = made; folder_is = folder ∙ at.0; name_is = name ∙ at.1 }))
