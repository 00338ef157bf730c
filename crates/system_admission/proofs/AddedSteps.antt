-- The steps of admissions come after those that were there, under the same limit.
use Rattle.std.proofs.Common.{◌≡◌, ℕ, Bool, true, false, List, [], ◌∷◌, ◌++◌, Result, Ok, Err, inl, inr, append_assoc, refl, sym, ap, ◌∙◌}
use Rattle.std.specs.Prelude.{⊤}
use Rattle.digit_tuple.specs.Automaton.{Branching}
use Rattle.digit_tuple.specs.Deterministic.{Automaton}
use Rattle.digit_tuple.specs.StepResults.{Then}
use Rattle.digit_tuple.specs.Steps.{StepLog, with_lines}
use Rattle.digit_tuple.specs.declared.direction.Direction.{Direction}
use Rattle.digit_tuple.specs.declared.step_fault.StepFault.{StepFault}
use Rattle.digit_tuple.specs.declared.steps.StepLine.{StepLine}
use Rattle.minimise.specs.Tracked.{NamedAutomaton}
use Rattle.product_op.specs.declared.op.Op.TheVariants.{And}
use Rattle.num_system.specs.SuccessorSteps.{name_u, name_x, name_y, order_on}
use Rattle.automaton_steps.specs.JoinSteps.{join_step}
use Rattle.automaton_steps.specs.Makings.{Making, DoesStep}
use Rattle.automaton_steps.specs.OrderSteps.{order_step}
use Rattle.automaton_steps.specs.PadSteps.{pad_step}
use Rattle.automaton_steps.specs.ProjectSteps.{project_step}
use Rattle.automaton_steps.specs.ReadSteps.{read_step}
use Rattle.automaton_steps.specs.ReverseSteps.{reverse_step}
use Rattle.automaton_steps.specs.ValiditySteps.{valid_step}
use Rattle.adder_check.specs.AdderRelation.{DoesAdder, adder_names, name_z}
use Rattle.adder_check.specs.Admission.{DoesAdmission, DoesLanguage, DoesLaws, IsThrough, KeepsLanguage, Where}
use Rattle.adder_check.specs.BothForSome.{DoesBothForSome}
use Rattle.adder_check.specs.Faults.{Lifted, DecidesSame}
use Rattle.adder_check.specs.LanguageSteps.{DoesFile, DoesReversal}
use Rattle.adder_check.specs.NextSums.{DoesNextSums, sum_on, name_v, name_w}
use Rattle.adder_check.specs.SuccessorPlan.{DoesSuccessor, chain_step, next_step}
use Rattle.adder_check.specs.ZeroSums.{DoesZeroLaw, on_y}
use Rattle.adder_check.specs.declared.admit_fault.AdmitFault.{AdmitFault}
use Rattle.adder_check.specs.declared.admit_fault.Law.{Law}
use Rattle.adder_check.specs.declared.admit_fault.Law.TheVariants as laws
use Rattle.system_files.specs.SystemFiles.{Custom, SystemFiles}
use Rattle.system_admission.specs.AdmissionLaws.{AdmissionsAddSteps}
use Rattle.system_admission.specs.Admissions.{AdmitsFiles}
use Rattle.system_admission.specs.SystemSteps.{AdmitsName, AdmitsNames, AdmitsOther, RefusesName}
use Rattle.system_admission.specs.declared.system_fault.SystemFault.{SystemFault}
use Rattle.system_admission.proofs.NumberSteps.{stops_admission}

abbrev Adds : StepLog → StepLog → Type 0
Adds old new = (lines : List StepLine) × (new ≡ with_lines old lines)

append_nothing : (xs : List StepLine) → xs ++ [] ≡ xs
append_nothing [] = refl
append_nothing (x ∷ xs) = ap (λ (ys : List StepLine). x ∷ ys) (append_nothing xs)

same_adds : (old new : StepLog) → new ≡ old → Adds old new
same_adds old new same = ([], same ∙ (λ i. record { limit = old.limit; lines = sym (append_nothing old.lines) i }))

more_adds : (old mid new : StepLog) → Adds old mid → Adds mid new → Adds old new
more_adds old mid new (lines, is) (more, also) =
    let joined : (old.lines ++ lines) ++ more ≡ old.lines ++ (lines ++ more) = append_assoc old.lines lines more in
    (lines ++ more, also ∙ ap (λ (l : StepLog). with_lines l more) is ∙ (λ i. record { limit = old.limit; lines = joined i }))

abbrev AddsSteps : {A E : Type 0} → (StepLog → Result A E → StepLog → Type 0) → Type 0
AddsSteps does = (old new : StepLog) (r : _) → does old r new → Adds old new

step_adds : {Made : Type 0} (making : Making Made) → AddsSteps (DoesStep making)
step_adds making old new (Ok made) done = (done.line ∷ [], done.new_is)
step_adds making old new (Err fault) refused = same_adds old new refused.1

then_adds : {A B E : Type 0} (first : StepLog → Result A E → StepLog → Type 0) (next : A → StepLog → Result B E → StepLog → Type 0) → AddsSteps first → ((a : A) → AddsSteps (next a)) → AddsSteps (Then first next)
then_adds first next one more old new r (inl (a, mid, does, rest)) = more_adds old mid new (one old mid (Ok a) does) (more a mid new r rest)
then_adds first next one more old new r (inr (fault, does, is)) = one old new (Err fault) does

lifted_adds : {A : Type 0} (does : StepLog → Result A StepFault → StepLog → Type 0) → AddsSteps does → AddsSteps (Lifted does)
lifted_adds does one old new (Ok a) done = one old new (Ok a) done
lifted_adds does one old new (Err fault) (f, done, is) = one old new (Err f) done

decides_adds : (a b : Automaton) → AddsSteps (DecidesSame a b)
decides_adds a b old new (Ok is) known = same_adds old new known.1
decides_adds a b old new (Err f) known = absurd known

reversal_adds : (reversed : Bool) (read : Automaton) → AddsSteps (DoesReversal reversed read)
reversal_adds true read = step_adds (reverse_step read)
reversal_adds false read = λ old new r does. same_adds old new does.1

file_adds : (listed : Branching) (reversed : Bool) → AddsSteps (DoesFile listed reversed)
file_adds listed reversed = then_adds (DoesStep (read_step listed)) (DoesReversal reversed) (step_adds (read_step listed)) (reversal_adds reversed)

adder_adds : (direction : Direction) (listed : Branching) (reversed : Bool) (languages : List Automaton) → AddsSteps (DoesAdder direction listed reversed languages)
adder_adds direction listed reversed languages =
    then_adds (DoesFile listed reversed) _ (file_adds listed reversed)
    (λ read. then_adds (DoesStep (pad_step direction read)) _ (step_adds (pad_step direction read)) (λ closed. step_adds (valid_step languages (record { names = adder_names; automaton = closed }))))

successor_adds : (direction : Direction) (d : Automaton) → AddsSteps (DoesSuccessor direction d)
successor_adds direction d =
    then_adds (DoesStep (order_step direction d)) _ (step_adds (order_step direction d)) (λ less. then_adds (DoesStep (chain_step less)) _ (step_adds (chain_step less))
    (λ chain. then_adds (DoesStep (project_step direction name_u chain)) _ (step_adds (project_step direction name_u chain)) (λ between. step_adds (next_step less between))))

both_adds : (direction : Direction) (track : List ℕ) (a b : NamedAutomaton) → AddsSteps (DoesBothForSome direction track a b)
both_adds direction track a b = then_adds (DoesStep (join_step And [] a b)) _ (step_adds (join_step And [] a b)) (λ joined. step_adds (project_step direction track joined))

next_sums_adds : (direction : Direction) (adder next : Automaton) → AddsSteps (DoesNextSums direction adder next)
next_sums_adds direction adder next =
    then_adds (DoesBothForSome direction name_v (order_on next name_y name_v) (sum_on adder name_x name_v name_z)) _ (both_adds direction name_v (order_on next name_y name_v) (sum_on adder name_x name_v name_z))
    (λ with_next. then_adds (DoesBothForSome direction name_w (sum_on adder name_x name_y name_w) (order_on next name_w name_z)) _
    (both_adds direction name_w (sum_on adder name_x name_y name_w) (order_on next name_w name_z)) (λ of_sums. decides_adds with_next.automaton of_sums.automaton))

zero_law_adds : (direction : Direction) (d : Automaton) (adder : NamedAutomaton) → AddsSteps (DoesZeroLaw direction d adder)
zero_law_adds direction d adder old new r (inl ran_out) = same_adds old new ran_out.1
zero_law_adds direction d adder old new r (inr (zero, equal, are, does)) =
    then_adds (DoesBothForSome direction name_y adder (on_y zero)) (λ sums. DecidesSame sums.automaton equal) (both_adds direction name_y adder (on_y zero)) (λ sums. decides_adds sums.automaton equal) old new r does

where_adds : {B : Type 0} (holds : Bool) (law : Law) (next : StepLog → Result B AdmitFault → StepLog → Type 0) → AddsSteps next → AddsSteps (Where holds law next)
where_adds true law next one old new r does = one old new r does
where_adds false law next one old new r does = same_adds old new does.1

laws_add : (direction : Direction) (d next : Automaton) (adder : NamedAutomaton) → AddsSteps (DoesLaws direction d next adder)
laws_add direction d next adder =
    then_adds (Lifted (DoesZeroLaw direction d adder)) _ (lifted_adds (DoesZeroLaw direction d adder) (zero_law_adds direction d adder))
    (λ zero_law. where_adds zero_law laws.ZeroLaw _ (then_adds (Lifted (DoesNextSums direction adder.automaton next)) _ (lifted_adds (DoesNextSums direction adder.automaton next) (next_sums_adds direction adder.automaton next))
    (λ next_law. where_adds next_law laws.SuccessorLaw IsThrough (λ old new r does. same_adds old new does.1))))

language_adds : (direction : Direction) (listed : Branching) (reversed : Bool) → AddsSteps (DoesLanguage direction listed reversed)
language_adds direction listed reversed =
    then_adds (Lifted (DoesFile listed reversed)) (KeepsLanguage direction) (lifted_adds (DoesFile listed reversed) (file_adds listed reversed)) (λ d old new r does. same_adds old new does.0)

admission_adds : (direction : Direction) (language adder : Branching) (reversed : Bool) → AddsSteps (DoesAdmission direction language adder reversed)
admission_adds direction language adder reversed =
    then_adds (DoesLanguage direction language reversed) _ (language_adds direction language reversed)
    (λ d. then_adds (Lifted (DoesSuccessor direction d)) _ (lifted_adds (DoesSuccessor direction d) (successor_adds direction d))
    (λ next. then_adds (Lifted (DoesAdder direction adder reversed (d ∷ d ∷ d ∷ []))) _ (lifted_adds (DoesAdder direction adder reversed (d ∷ d ∷ d ∷ [])) (adder_adds direction adder reversed (d ∷ d ∷ d ∷ [])))
    (λ sums. then_adds (DoesLaws direction d next sums) _ (laws_add direction d next sums) (λ done old new r made. same_adds old new made.0))))

files_add : (direction : Direction) (files : SystemFiles) → AddsSteps (AdmitsFiles direction files)
files_add direction files old new r (inl ran_out) = same_adds old new ran_out.1
files_add direction files old new r (inr (inl (large, refused))) = same_adds old new refused.1
files_add direction files old new r (inr (inr (language, table, inl (large, stops)))) =
    admission_adds direction language language files.reversed old new r (stops_admission direction language language files.reversed old new r stops)
files_add direction files old new r (inr (inr (language, table, inr (adder, sums, does)))) = admission_adds direction language adder files.reversed old new r does

module _ (custom : Custom) (name : List ℕ) where
  refused_adds : (old new : StepLog) (fault : SystemFault) → RefusesName custom name old fault new → Adds old new
  refused_adds old new fault (inl (none, known, same)) = same_adds old new same
  refused_adds old new fault (inr (inl (direction, part, named, refuses, same))) = same_adds old new same
  refused_adds old new fault (inr (inr not)) = files_add not.direction not.files old new (Err not.refusal) not.admits

  other_adds : (old new : StepLog) (r : Result ⊤ SystemFault) → AdmitsOther custom name old r new → Adds old new
  other_adds old new (Ok a) (user, is) = files_add is.direction is.files old new (Ok user) is.admits
  other_adds old new (Err fault) refuses = refused_adds old new fault refuses

  name_adds : AddsSteps (AdmitsName custom name)
  name_adds old new r (inl (built_in, known, same)) = same_adds old new same
  name_adds old new r (inr (none, other)) = other_adds old new r other

pub names_add : AdmissionsAddSteps
names_add custom [] old new r done = same_adds old new done.1
names_add custom (name ∷ names) old new r does =
    then_adds (AdmitsName custom name) (λ done. AdmitsNames custom names) (name_adds custom name) (λ done old new r rest. names_add custom names old new r rest) old new r does
