-- A language command has one outcome.
use Rattle.std.proofs.Common.{◌≡◌, ◌≢◌, ℕ, ℤ, List, [], ◌∷◌, None, Some, Result, Ok, Err, inl, inr, refl, sym, ap, ◌∙◌}
use Rattle.std.specs.List.{AllByRecursion}
use Rattle.digit_tuple.specs.Deterministic.{Automaton}
use Rattle.digit_tuple.specs.Steps.{StepLog}
use Rattle.digit_tuple.specs.declared.step_fault.StepFault.{StepFault}
use Rattle.digit_tuple.specs.declared.step_fault.StepFault.TheVariants as steps
use Rattle.digit_tuple.specs.declared.steps.StepLine.{StepLine}
use Rattle.automaton_steps.proofs.AnswerCases.{one_result}
use Rattle.command_head.specs.Breaks.{HasOneHead}
use Rattle.command_head.proofs.LanguageHeads.{one_language, one_languages}
use Rattle.command_head.proofs.OneFault.{one_head}
use Rattle.dfa_loading.specs.declared.loaded.Loaded.{Loaded}
use Rattle.dfa_reading.specs.Headers.{Header, Sets}
use Rattle.system_admission.specs.SystemSteps.{no_steps}
use Rattle.language_steps.specs.LanguageSteps.{DoesLanguage}
use Rattle.language_steps.specs.Tables.{IsFirstUnlike, IsOverSets}
use Rattle.language_steps.proofs.HeaderLemmas.{same_sets}
use Rattle.language_steps.proofs.OneSteps.{language_one}
use Rattle.language_steps.specs.declared.op.LanguageOp.{LanguageOp}
use Rattle.language_steps.specs.declared.op.LanguageOp.TheVariants.{Pair, One}
use Rattle.definitions.specs.Trees.{Ledger, custom_of}
use Rattle.command_parts.specs.declared.shape_refusal.ShapeRefusal.TheVariants as shape_refusals
use Rattle.command_parts.specs.declared.refusal.Refusal.TheVariants as refusals
use Rattle.command_parts.specs.declared.fault.Fault.TheVariants as faults
use Rattle.command_parts.specs.Accepting.{stored}
use Rattle.command_parts.specs.Checks.{Pure, IsSingle}
use Rattle.command_parts.specs.FileChecks.{files_loaded}
use Rattle.command_parts.specs.HeadAnswers.{HeadAnswers}
use Rattle.language_commands.specs.LanguageOutcomes.{DerivesOperation, LangShapeAnswers, LanguageAnswers, NotPlainAnswers, after_header, after_language_head, after_language_tables, after_sets, all_plain, fault_of_shape, language_checks, language_done, language_files, language_success, one_header, op_word}
use Rattle.command_parts.specs.TrackSystems.{fault_of}
use Rattle.command_parts.proofs.CheckSteps.{then_single}
use Rattle.command_parts.proofs.OneHeads.{head_single}
use Rattle.command_parts.proofs.OneLoadings.{files_single}
use Rattle.command_parts.proofs.OneTexts.{stored_single}
use Rattle.command_parts.proofs.RefusingSteps.{refusing_single}

-- all are over sets, or one is the first that is not
plain_one : (tables : List Loaded) (r s : Result (Unit {0}) (List ℕ)) → NotPlainAnswers tables r → NotPlainAnswers tables s → r ≡ s
plain_one tables (Ok done) (Ok also) a b = refl
plain_one tables (Ok done) (Err name) a b = let no : None ≡ Some name = sym a ∙ b in absurd (cc)
plain_one tables (Err name) (Ok done) a b = let no : None ≡ Some name = sym b ∙ a in absurd (cc)
plain_one tables (Err name) (Err other) a b =
    let both : Some name ≡ Some other = sym a ∙ b in
    let same : name ≡ other = cc in
    ap (λ (n : List ℕ). let r : Result (Unit {0}) (List ℕ) = Err n in r) same

-- they are over the same sets, or one is the first that is unlike
one_unlike : (header : Header) (tables : List Loaded) (other also : List ℕ) → IsFirstUnlike header tables other → IsFirstUnlike header tables also → other ≡ also
one_unlike header [] other also a b = absurd a
one_unlike header (table ∷ tables) other also (inl (apart, is)) (inl (apart', is')) = is ∙ sym is'
one_unlike header (table ∷ tables) other also (inl (apart, is)) (inr (same, later)) = absurd (apart same)
one_unlike header (table ∷ tables) other also (inr (same, later)) (inl (apart, is)) = absurd (apart same)
one_unlike header (table ∷ tables) other also (inr (same, later)) (inr (same', later')) = one_unlike header tables other also later later'

none_unlike : (sets : List (List ℤ)) (header : Header) (tables : List Loaded) (other : List ℕ) → header ≡ Sets sets → AllByRecursion (IsOverSets sets) tables → IsFirstUnlike header tables other → ⊥
none_unlike sets header [] other is all a = a
none_unlike sets header (table ∷ tables) other is all (inl (apart, at)) = apart (all.0 ∙ sym is)
none_unlike sets header (table ∷ tables) other is all (inr (same, later)) = none_unlike sets header tables other is all.1 later

shape_one : (tables : List Loaded) (r s : Result (List (List ℤ)) (List ℕ × List ℕ)) → LangShapeAnswers tables r → LangShapeAnswers tables s → r ≡ s
shape_one [] (Ok sets) s a b = absurd a
shape_one [] (Err names) s a b = absurd a
shape_one (table ∷ tables) (Ok sets) (Ok others) a b = ap (λ (x : List (List ℤ)). let r : Result (List (List ℤ)) (List ℕ × List ℕ) = Ok x in r) (same_sets sets others (sym a.0 ∙ b.0))
shape_one (table ∷ tables) (Ok sets) (Err names) a b = absurd (none_unlike sets table.listed.header tables names.1 a.0 a.1 b.1)
shape_one (table ∷ tables) (Err names) (Ok sets) a b = absurd (none_unlike sets table.listed.header tables names.1 b.0 b.1 a.1)
shape_one (table ∷ tables) (Err names) (Err others) a b =
    let first : names.0 ≡ others.0 = a.0 ∙ sym b.0 in
    let second : names.1 ≡ others.1 = one_unlike table.listed.header tables names.1 others.1 a.1 b.1 in
    λ i. Err (first i, second i)

-- the steps have one answer
abbrev of_steps : Result Automaton StepFault → StepLog → Result (List StepLine) StepFault
of_steps (Ok made) log = Ok log.lines
of_steps (Err fault) log = Err fault

module _ (limit : ℕ) (op : LanguageOp) (names : List (List ℕ)) (tables : List Loaded) where
  record AreSteps (r : Result (List StepLine) StepFault) : Type 0 where
    result : Result Automaton StepFault
    log : StepLog
    does : DoesLanguage op names tables (no_steps limit) result log
    not_memory : result ≢ Err steps.Memory
    is : r ≡ of_steps result log

  steps_are : (r : Result (List StepLine) StepFault) → LanguageAnswers limit op names tables r → AreSteps r
  steps_are (Ok lines) (made, log, does, is) = record { result = Ok made; log = log; does = does; not_memory = λ no. cc; is = ap (λ (ls : List StepLine). let x : Result (List StepLine) StepFault = Ok ls in x) is }
  steps_are (Err (steps.Letters step)) (log, does) = record { result = Err (steps.Letters step); log = log; does = does; not_memory = λ no. cc; is = refl }
  steps_are (Err (steps.States step)) (log, does) = record { result = Err (steps.States step); log = log; does = does; not_memory = λ no. cc; is = refl }
  steps_are (Err steps.Memory) a = absurd a

  steps_one : (r s : Result (List StepLine) StepFault) → LanguageAnswers limit op names tables r → LanguageAnswers limit op names tables s → r ≡ s
  steps_one r s a b =
      let p : AreSteps r = steps_are r a in
      let q : AreSteps s = steps_are s b in
      let one = one_result steps.Memory p.log q.log p.result q.result (language_one op names tables (no_steps limit) p.log q.log p.result q.result p.does q.does) p.not_memory q.not_memory in
      p.is ∙ ((λ i. of_steps (one.0 i) (one.1 i)) ∙ sym q.is)

operation_head : (op : LanguageOp) → HasOneHead (DerivesOperation op)
operation_head (Pair op) = one_head (DerivesOperation (Pair op)) (one_languages (op_word (Pair op)))
operation_head (One op) = one_head (DerivesOperation (One op)) (one_language (op_word (One op)))

pub language_single : (op : LanguageOp) (limit : ℕ) (ledger : Ledger) (text : List ℕ) → IsSingle (language_checks op limit ledger text)
language_single op limit ledger text =
    then_single (Pure (HeadAnswers (DerivesOperation op) text)) (λ head. after_language_head limit ledger op head) (head_single (DerivesOperation op) (operation_head op) text) (λ head spells.
    then_single (files_loaded ledger (language_files head.languages)) (λ tables. after_language_tables limit ledger op head tables) (files_single ledger (language_files head.languages)) (λ tables there.
    then_single (all_plain tables) (λ plain. after_sets limit ledger op head tables) (refusing_single (λ name. faults.Refused (refusals.Shape (shape_refusals.NotPlain name))) (NotPlainAnswers tables) (plain_one tables)) (λ plain none.
    then_single (one_header tables) (λ sets. after_header limit ledger op head tables sets) (refusing_single fault_of_shape (LangShapeAnswers tables) (shape_one tables)) (λ sets over.
    then_single (language_done limit op head.languages tables) (λ lines. stored (custom_of ledger) (language_success ledger op head sets lines))
    (refusing_single fault_of (LanguageAnswers limit op head.languages tables) (steps_one limit op head.languages tables)) (λ lines done.
    stored_single (custom_of ledger) (language_success ledger op head sets lines))))))
