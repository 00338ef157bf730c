-- A `promote` has one outcome.
use Rattle.std.proofs.Common.{◌≡◌, ◌≢◌, ℕ, List, Result, Ok, Err, refl, sym, ap, ◌∙◌, subst}
use Rattle.wal_outside.specs.Files.{Files}
use Rattle.digit_tuple.specs.Steps.{StepLog}
use Rattle.digit_tuple.specs.declared.step_fault.StepFault.TheVariants as steps
use Rattle.digit_tuple.specs.declared.steps.StepLine.{StepLine}
use Rattle.automaton_steps.proofs.AnswerCases.{one_result}
use Rattle.base_k.proofs.ValueLemmas.{rank_is_value}
use Rattle.command_head.specs.Grammar.{DerivesPromote}
use Rattle.command_head.proofs.OneFault.{one_head}
use Rattle.command_head.proofs.WordHeads.{one_promote}
use Rattle.dfa_loading.specs.declared.fault.LoadFault.{LoadFault}
use Rattle.fixed_points.proofs.OnePromotion.{one_promotions}
use Rattle.fixed_points.specs.Laws.{PromotionsHaveOneOutcome}
use Rattle.fixed_points.specs.Promotion.{DoesPromote}
use Rattle.fixed_points.specs.declared.promote_fault.PromoteFault.{PromoteFault}
use Rattle.fixed_points.specs.declared.promote_fault.PromoteFault.TheVariants as promotes
use Rattle.morph_words.specs.Rules.{Rules}
use Rattle.morph_words.proofs.OneParse.{one_answer}
use Rattle.morphism_loading.specs.MorphismFiles.{AnswersMorphism}
use Rattle.morphism_loading.proofs.OneAnswer.{files_have_one_answer}
use Rattle.word_output.specs.Words.{WordValue}
use Rattle.definitions.specs.Texts.{Stores}
use Rattle.definitions.specs.Trees.{Ledger, custom_of}
use Rattle.system_files.specs.SystemFiles.{Custom}
use Rattle.command_parts.specs.declared.refusal.Refusal.{Refusal}
use Rattle.command_parts.specs.Accepting.{stored}
use Rattle.command_parts.specs.Checks.{Pure, IsSingle}
use Rattle.command_parts.specs.FormulaFaults.{fault_of_loading}
use Rattle.command_parts.specs.HeadAnswers.{HeadAnswers}
use Rattle.word_commands.specs.MorphismChecks.{MorphismAnswers, morphism_loaded}
use Rattle.command_parts.specs.MorphismFaults.{fault_of_promotion}
use Rattle.word_commands.specs.PromoteOutcomes.{PromotedAnswers, after_morphism, promote_checks}
use Rattle.system_admission.specs.SystemSteps.{no_steps}
use Rattle.word_commands.proofs.PromoteCheckNames.{fixed_success, after_promote_head}
use Rattle.command_parts.proofs.CheckSteps.{then_single, single_so}
use Rattle.command_parts.proofs.OneHeads.{head_single}
use Rattle.command_parts.proofs.OneLoadings.{same_there}
use Rattle.command_parts.proofs.OneTexts.{stored_single}
use Rattle.command_parts.proofs.RefusingSteps.{refusing_single, refusing_one}
use Rattle.command_parts.specs.RefusingChecks.{Refusing}

-- what the file of a morphism gives
record IsLoading (ledger : Ledger) (name : List ℕ) (r : Result Rules LoadFault) : Type 0 where
  files : Files
  stores : Stores ledger files
  answers : AnswersMorphism files name r

loading_is : (ledger : Ledger) (name : List ℕ) (r : Result Rules Refusal) → MorphismAnswers ledger name r → (Refusing fault_of_loading (IsLoading ledger name)).answers r
loading_is ledger name (Ok made) (files, stores, there) = record { files = files; stores = stores; answers = there }
loading_is ledger name (Err refusal) (fault, is, (files, stores, refuses)) = (fault, is, record { files = files; stores = stores; answers = refuses })

loading_one : (ledger : Ledger) (name : List ℕ) (r s : Result Rules LoadFault) → IsLoading ledger name r → IsLoading ledger name s → r ≡ s
loading_one ledger name r s p q =
    let same : q.files ≡ p.files = λ i folder under. same_there ledger q.files p.files q.stores p.stores folder under i in
    files_have_one_answer one_answer p.files name r s p.answers (subst (λ (files : Files). AnswersMorphism files name s) same q.answers)

pub loading_single : (ledger : Ledger) (name : List ℕ) → IsSingle (morphism_loaded ledger name)
loading_single ledger name = single_so (morphism_loaded ledger name) (Refusing fault_of_loading (IsLoading ledger name)) (loading_is ledger name) (refusing_single fault_of_loading (IsLoading ledger name) (loading_one ledger name))

-- the steps, or why there is no fixed point
abbrev of_promotion : Result WordValue PromoteFault → StepLog → Result (List StepLine) PromoteFault
of_promotion (Ok word) log = Ok log.lines
of_promotion (Err fault) log = Err fault

record IsPromotion (limit : ℕ) (rules : Rules) (r : Result (List StepLine) PromoteFault) : Type 0 where
  result : Result WordValue PromoteFault
  log : StepLog
  does : DoesPromote rules (no_steps limit) result log
  is : r ≡ of_promotion result log

promotion_is : (limit : ℕ) (rules : Rules) (r : Result (List StepLine) Refusal) → PromotedAnswers limit rules r → (Refusing fault_of_promotion (IsPromotion limit rules)).answers r
promotion_is limit rules (Ok lines) (word, log, does, lines_are) = record { result = Ok word; log = log; does = does; is = ap (λ (ls : List StepLine). let x : Result (List StepLine) PromoteFault = Ok ls in x) lines_are }
promotion_is limit rules (Err refusal) (fault, is, (log, does)) = (fault, is, record { result = Err fault; log = log; does = does; is = refl })

promotion_one : PromotionsHaveOneOutcome → (limit : ℕ) (rules : Rules) (r s : Result (List StepLine) PromoteFault) → IsPromotion limit rules r → IsPromotion limit rules s → r ≢ Err (promotes.Step steps.Memory) → s ≢ Err (promotes.Step steps.Memory) → r ≡ s
promotion_one promotions limit rules r s p q some other =
    let one = one_result (promotes.Step steps.Memory) p.log q.log p.result q.result (promotions rules (no_steps limit) p.log q.log p.result q.result p.does q.does)
    (λ is. some (p.is ∙ ap (λ (x : Result WordValue PromoteFault). of_promotion x p.log) is)) (λ is. other (q.is ∙ ap (λ (x : Result WordValue PromoteFault). of_promotion x q.log) is)) in
    p.is ∙ ((λ i. of_promotion (one.0 i) (one.1 i)) ∙ sym q.is)

promoted_single : PromotionsHaveOneOutcome → (limit : ℕ) (rules : Rules) → IsSingle (Pure (PromotedAnswers limit rules))
promoted_single promotions limit rules =
    single_so (Pure (PromotedAnswers limit rules)) (Refusing fault_of_promotion (IsPromotion limit rules)) (promotion_is limit rules) (refusing_one fault_of_promotion (IsPromotion limit rules) (promotes.Step steps.Memory) refl (promotion_one promotions limit rules))

-- the promotion of a morphism has one outcome
one_promotion : PromotionsHaveOneOutcome
one_promotion = one_promotions rank_is_value

-- a `promote` has one fixed point
pub promote_single : (limit : ℕ) (ledger : Ledger) (text : List ℕ) → IsSingle (promote_checks limit ledger text)
promote_single limit ledger text =
    let custom : Custom = custom_of ledger in
    then_single (Pure (HeadAnswers DerivesPromote text)) (λ head. after_promote_head limit ledger head) (head_single DerivesPromote (one_head DerivesPromote one_promote) text) (λ head spells.
    then_single (morphism_loaded ledger head.morphism) (λ rules. after_morphism limit custom head.word rules) (loading_single ledger head.morphism) (λ rules there.
    then_single (Pure (PromotedAnswers limit rules)) (λ lines. stored custom (fixed_success head.word rules lines)) (promoted_single one_promotion limit rules) (λ lines promoted.
    stored_single custom (fixed_success head.word rules lines))))
