-- The lines of an admission do not depend on the lines before it.
use Rattle.std.proofs.Common.{ℕ, Bool, true, false, List, [], ◌∷◌, Result, inl, inr, refl}
use Rattle.digit_tuple.specs.Automaton.{Branching}
use Rattle.digit_tuple.specs.Deterministic.{Automaton}
use Rattle.digit_tuple.specs.Steps.{StepLog}
use Rattle.digit_tuple.specs.declared.direction.Direction.{Direction}
use Rattle.digit_tuple.specs.declared.step_fault.StepFault.{StepFault}
use Rattle.minimise.specs.Tracked.{NamedAutomaton}
use Rattle.product_op.specs.declared.op.Op.TheVariants.{And}
use Rattle.num_system.specs.SuccessorSteps.{name_u, name_x, name_y, order_on}
use Rattle.automaton_steps.specs.JoinSteps.{join_step}
use Rattle.automaton_steps.specs.Makings.{DoesStep}
use Rattle.automaton_steps.specs.OrderSteps.{order_step}
use Rattle.automaton_steps.specs.PadSteps.{pad_step}
use Rattle.automaton_steps.specs.ProjectSteps.{project_step}
use Rattle.automaton_steps.specs.ReadSteps.{read_step}
use Rattle.automaton_steps.specs.ReverseSteps.{reverse_step}
use Rattle.automaton_steps.specs.ValiditySteps.{valid_step}
use Rattle.adder_check.specs.AdderRelation.{DoesAdder, adder_names, name_z}
use Rattle.adder_check.specs.Admission.{DoesAdmission, DoesLanguage, DoesLaws, IsMade, IsThrough, KeepsLanguage, Where}
use Rattle.adder_check.specs.BothForSome.{DoesBothForSome}
use Rattle.adder_check.specs.Faults.{Lifted, DecidesSame}
use Rattle.adder_check.specs.LanguageSteps.{DoesFile, DoesReversal}
use Rattle.adder_check.specs.NextSums.{DoesNextSums, sum_on, name_v, name_w}
use Rattle.adder_check.specs.SuccessorPlan.{DoesSuccessor, chain_step, next_step}
use Rattle.adder_check.specs.ZeroSums.{DoesZeroLaw, on_y}
use Rattle.adder_check.specs.declared.admit_fault.AdmitFault.{AdmitFault}
use Rattle.adder_check.specs.declared.admit_fault.Law.{Law}
use Rattle.adder_check.specs.declared.admit_fault.Law.TheVariants as laws
use Rattle.system_files.specs.SystemFiles.{SystemFiles}
use Rattle.step_lines.proofs.ShiftedSteps.{Shifts, still, step_shifts, then_shifts}
use Rattle.system_admission.specs.Admissions.{AdmitsFiles}
use Rattle.system_admission.proofs.NumberSteps.{not_stopped}

lifted_shifts : {A : Type 0} (does : StepLog → Result A StepFault → StepLog → Type 0) → Shifts does → Shifts (Lifted does)
lifted_shifts does one old new made done = let by = one old new made done in record { lines = by.lines; new_is = by.new_is; shift = by.shift }

decides_shifts : (a b : Automaton) → Shifts (DecidesSame a b)
decides_shifts a b old new made known = still (DecidesSame a b) old new made known.1 (λ other. (known.0, refl))

reversal_shifts : (reversed : Bool) (read : Automaton) → Shifts (DoesReversal reversed read)
reversal_shifts true read = step_shifts (reverse_step read)
reversal_shifts false read = λ old new made does. still (DoesReversal false read) old new made does.1 (λ other. (does.0, refl))

file_shifts : (listed : Branching) (reversed : Bool) → Shifts (DoesFile listed reversed)
file_shifts listed reversed = then_shifts (DoesStep (read_step listed)) (DoesReversal reversed) (step_shifts (read_step listed)) (reversal_shifts reversed)

adder_shifts : (direction : Direction) (listed : Branching) (reversed : Bool) (languages : List Automaton) → Shifts (DoesAdder direction listed reversed languages)
adder_shifts direction listed reversed languages =
    then_shifts (DoesFile listed reversed) _ (file_shifts listed reversed)
    (λ read. then_shifts (DoesStep (pad_step direction read)) _ (step_shifts (pad_step direction read)) (λ closed. step_shifts (valid_step languages (record { names = adder_names; automaton = closed }))))

successor_shifts : (direction : Direction) (d : Automaton) → Shifts (DoesSuccessor direction d)
successor_shifts direction d =
    then_shifts (DoesStep (order_step direction d)) _ (step_shifts (order_step direction d)) (λ less. then_shifts (DoesStep (chain_step less)) _ (step_shifts (chain_step less))
    (λ chain. then_shifts (DoesStep (project_step direction name_u chain)) _ (step_shifts (project_step direction name_u chain)) (λ between. step_shifts (next_step less between))))

both_shift : (direction : Direction) (track : List ℕ) (a b : NamedAutomaton) → Shifts (DoesBothForSome direction track a b)
both_shift direction track a b = then_shifts (DoesStep (join_step And [] a b)) _ (step_shifts (join_step And [] a b)) (λ joined. step_shifts (project_step direction track joined))

next_sums_shift : (direction : Direction) (adder next : Automaton) → Shifts (DoesNextSums direction adder next)
next_sums_shift direction adder next =
    then_shifts (DoesBothForSome direction name_v (order_on next name_y name_v) (sum_on adder name_x name_v name_z)) _ (both_shift direction name_v (order_on next name_y name_v) (sum_on adder name_x name_v name_z))
    (λ with_next. then_shifts (DoesBothForSome direction name_w (sum_on adder name_x name_y name_w) (order_on next name_w name_z)) _
    (both_shift direction name_w (sum_on adder name_x name_y name_w) (order_on next name_w name_z)) (λ of_sums. decides_shifts with_next.automaton of_sums.automaton))

zero_law_shifts : (direction : Direction) (d : Automaton) (adder : NamedAutomaton) → Shifts (DoesZeroLaw direction d adder)
zero_law_shifts direction d adder old new made (inl (is, same)) = absurd cc
zero_law_shifts direction d adder old new made (inr (zero, equal, are, does)) =
    let by = then_shifts (DoesBothForSome direction name_y adder (on_y zero)) (λ sums. DecidesSame sums.automaton equal) (both_shift direction name_y adder (on_y zero)) (λ sums. decides_shifts sums.automaton equal) old new made does in
    record { lines = by.lines; new_is = by.new_is; shift = λ other limit. inr (zero, equal, are, by.shift other limit) }

where_shifts : {B : Type 0} (holds : Bool) (law : Law) (next : StepLog → Result B AdmitFault → StepLog → Type 0) → Shifts next → Shifts (Where holds law next)
where_shifts true law next one old new made does = let by = one old new made does in record { lines = by.lines; new_is = by.new_is; shift = by.shift }
where_shifts false law next one old new made (is, same) = absurd cc

through_shifts : Shifts IsThrough
through_shifts old new made does = still IsThrough old new made does.1 (λ other. (does.0, refl))

laws_shift : (direction : Direction) (d next : Automaton) (adder : NamedAutomaton) → Shifts (DoesLaws direction d next adder)
laws_shift direction d next adder =
    then_shifts (Lifted (DoesZeroLaw direction d adder)) _ (lifted_shifts (DoesZeroLaw direction d adder) (zero_law_shifts direction d adder))
    (λ zero_law. where_shifts zero_law laws.ZeroLaw _ (then_shifts (Lifted (DoesNextSums direction adder.automaton next)) _ (lifted_shifts (DoesNextSums direction adder.automaton next) (next_sums_shift direction adder.automaton next))
    (λ next_law. where_shifts next_law laws.SuccessorLaw IsThrough through_shifts)))

keeps_shift : (direction : Direction) (d : Automaton) → Shifts (KeepsLanguage direction d)
keeps_shift direction d old new made does = still (KeepsLanguage direction d) old new made does.0 (λ other. (refl, does.1))

language_shifts : (direction : Direction) (listed : Branching) (reversed : Bool) → Shifts (DoesLanguage direction listed reversed)
language_shifts direction listed reversed =
    then_shifts (Lifted (DoesFile listed reversed)) (KeepsLanguage direction) (lifted_shifts (DoesFile listed reversed) (file_shifts listed reversed)) (keeps_shift direction)

made_shifts : (direction : Direction) (d : Automaton) (sums : NamedAutomaton) → Shifts (IsMade direction d sums)
made_shifts direction d sums old new made does = still (IsMade direction d sums) old new made does.0 (λ other. (refl, does.1))

admission_shifts : (direction : Direction) (language adder : Branching) (reversed : Bool) → Shifts (DoesAdmission direction language adder reversed)
admission_shifts direction language adder reversed =
    then_shifts (DoesLanguage direction language reversed) _ (language_shifts direction language reversed)
    (λ d. then_shifts (Lifted (DoesSuccessor direction d)) _ (lifted_shifts (DoesSuccessor direction d) (successor_shifts direction d))
    (λ next. then_shifts (Lifted (DoesAdder direction adder reversed (d ∷ d ∷ d ∷ []))) _ (lifted_shifts (DoesAdder direction adder reversed (d ∷ d ∷ d ∷ [])) (adder_shifts direction adder reversed (d ∷ d ∷ d ∷ [])))
    (λ sums. then_shifts (DoesLaws direction d next sums) _ (laws_shift direction d next sums) (λ done. made_shifts direction d sums))))

pub files_shift : (direction : Direction) (files : SystemFiles) → Shifts (AdmitsFiles direction files)
files_shift direction files old new made (inl (is, same)) = absurd cc
files_shift direction files old new made (inr (inl (large, refused))) = let e = refused.0 in absurd cc
files_shift direction files old new made (inr (inr (language, table, inl (large, stops)))) = absurd (not_stopped direction language files.reversed old new made stops)
files_shift direction files old new made (inr (inr (language, table, inr (adder, sums, does)))) =
    let by = admission_shifts direction language adder files.reversed old new made does in
    record { lines = by.lines; new_is = by.new_is; shift = λ other limit. inr (inr (language, table, inr (adder, sums, by.shift other limit))) }
