use Rattle.std.proofs.Common.{◌≡◌, Bool, Result, Ok, Err, inl, inr, refl, rules, sym, subst}
use Rattle.digit_tuple.specs.Deterministic.{Automaton}
use Rattle.digit_tuple.specs.declared.step_fault.StepFault.{StepFault}
use Rattle.adder_check.specs.Faults.{Lifted, fault_of}
use Rattle.adder_check.specs.LanguageSteps.{DoesFile, IsOfFile}
use Rattle.adder_check.specs.SuccessorPlan.{DoesSuccessor}
use Rattle.adder_check.specs.declared.admit_fault.AdmitFault.{AdmitFault}
use Rattle.adder_check.proofs.FileSystems.{refused_by}
use Rattle.system_admission.specs.Admissions.{IsFirstFaultIn}
use Rattle.system_admission.proofs.FileMeanings.{language_first}
use Rattle.system_admission.proofs.NumberSteps.{file_refused, language_done, language_refused}
use Rattle.system_admission.proofs.admission.numbers.Goals as goal

pub returns-in_err-words-clause-steps : goal.returns-in_err-words-clause-steps
returns-in_err-words-clause-steps c =
    let f = c.in_err-words.field-0.0 in
    let does = subst (λ (b : Bool). DoesFile c.args.language.now b c.args.steps.now (Err f) c.file_steps.new.steps) c.reversed.ensures c.in_err-words.ensures.steps in
    inr (fault_of f, file_refused c.args.direction c.args.language.now c.args.files.now.reversed c.args.steps.now c.file_steps.new.steps f does, (let e = c.from_residual.ensures in search rules))

pub returns-in_err-check_language-clause-steps : goal.returns-in_err-check_language-clause-steps
returns-in_err-check_language-clause-steps c =
    let f = c.in_err-check_language.field-0.0 in
    let does = subst (λ (b : Bool). DoesFile c.args.language.now b c.args.steps.now (Ok c.in_ok-words.words) c.file_steps.new.steps) c.reversed.ensures c.in_ok-words.ensures.steps in
    inr (
      f,
      language_refused c.args.direction c.args.language.now c.args.files.now.reversed c.args.steps.now c.file_steps.new.steps c.in_ok-words.words f does c.in_err-check_language.ensures,
      (let e = c.from_residual-in_err-check_language.ensures in search rules),
    )

pub returns-in_err-check_language-clause-refused : goal.returns-in_err-check_language-clause-refused
returns-in_err-check_language-clause-refused c =
    let f = c.in_err-check_language.field-0.0 in
    let file = subst (λ (b : Bool). IsOfFile c.args.language.now b c.in_ok-words.words) c.reversed.ensures c.in_ok-words.ensures.file in
    refused_by (IsFirstFaultIn c.args.direction c.args.files.now) c.from_residual-in_err-check_language.result f (let e = c.from_residual-in_err-check_language.ensures in search rules)
    (language_first c.args.direction c.args.files.now c.args.language.now c.requires.words c.in_ok-words.words file f c.in_err-check_language.ensures)

pub returns-in_err-next-clause-steps : goal.returns-in_err-next-clause-steps
returns-in_err-next-clause-steps c =
    let f : StepFault = c.in_err-next.field-0.0 in
    let d : Automaton = c.in_ok-words.words in
    let does = subst (λ (b : Bool). DoesFile c.args.language.now b c.args.steps.now (Ok d) c.file_steps.new.steps) c.reversed.ensures c.in_ok-words.ensures.steps in
    let answer : c.from_residual-in_err-next.result ≡ Err (fault_of f) = (let e = c.from_residual-in_err-next.ensures in search rules) in
    inl (
      d,
      c.file_steps.new.steps,
      language_done c.args.direction c.args.language.now c.args.files.now.reversed c.args.steps.now c.file_steps.new.steps d does c.in_ok-check_language.ensures.0 c.in_ok-check_language.ensures.1,
      subst (λ (r : Result Automaton AdmitFault). Lifted (DoesSuccessor c.args.direction d) c.file_steps.new.steps r c.successor_steps.new.steps) (sym answer) (f, c.in_err-next.ensures.steps, refl),
    )

pub returns-clause-steps : goal.returns-clause-steps
returns-clause-steps c =
    let d : Automaton = c.in_ok-words.words in
    let does = subst (λ (b : Bool). DoesFile c.args.language.now b c.args.steps.now (Ok d) c.file_steps.new.steps) c.reversed.ensures c.in_ok-words.ensures.steps in
    inl (
      d,
      c.file_steps.new.steps,
      language_done c.args.direction c.args.language.now c.args.files.now.reversed c.args.steps.now c.file_steps.new.steps d does c.in_ok-check_language.ensures.0 c.in_ok-check_language.ensures.1,
      c.in_ok-next.ensures.steps,
    )
