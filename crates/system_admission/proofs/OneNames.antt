-- Admissions of names have one outcome.
use Rattle.std.proofs.Common.{◌≡◌, ℕ, List, [], ◌∷◌, Result, Ok, Err, inl, inr, refl, sym, ap, ◌∙◌, subst}
use Rattle.std.specs.Prelude.{⊤}
use Rattle.digit_tuple.specs.Steps.{StepLog}
use Rattle.digit_tuple.specs.declared.direction.Direction.{Direction}
use Rattle.digit_tuple.specs.declared.step_fault.StepFault.TheVariants as steps
use Rattle.dfa_loading.specs.declared.fault.LoadFault.{LoadFault}
use Rattle.automaton_steps.specs.OneAnswers.{AreOneAnswer, HasOneAnswer}
use Rattle.automaton_steps.proofs.AnswerCases.{memory_alone, one_value, raised_one}
use Rattle.automaton_steps.proofs.ThenAnswers.{then_one}
use Rattle.adder_check.specs.Admission.{user_system}
use Rattle.adder_check.specs.declared.admit_fault.AdmitFault.{AdmitFault}
use Rattle.adder_check.specs.declared.admit_fault.AdmitFault.TheVariants as admits
use Rattle.adder_check.specs.declared.user_system.UserSystem.{UserSystem}
use Rattle.system_names.specs.UserNames.{IsUserName}
use Rattle.system_names.proofs.UserSystems.{one_user_system}
use Rattle.system_files.specs.SystemFiles.{Custom, SystemFiles, AreFilesOf, RefusesFiles}
use Rattle.system_files.specs.UserSystems.{IsDefinedBy}
use Rattle.system_admission.specs.AdmissionLaws.{AdmissionsHaveOneOutcome, AdmittedSystemsAreMeant}
use Rattle.system_admission.specs.Admissions.{AdmitsFiles}
use Rattle.system_admission.specs.SystemSteps.{AdmitsName, AdmitsNames, AdmitsOther, HasFiles, IsAdmittedName, IsNotAdmitted, RefusesName, fault_of}
use Rattle.system_admission.specs.declared.system_fault.SystemFault.{SystemFault}
use Rattle.system_admission.specs.declared.system_fault.SystemFault.TheVariants as faults
use Rattle.system_admission.proofs.OneAdmissions.{files_define, files_one}
use Rattle.system_admission.proofs.OneFiles.{not_refused, one_files, one_refusal}

pub admitted_are_meant : AdmittedSystemsAreMeant
admitted_are_meant custom name old new user is =
    let made = files_define is.direction is.files old new user is.admits in
    let direction : is.direction ≡ user.direction = sym made.direction in
    record {
      part = is.has_files.part;
      is_name = subst (λ (turn : Direction). IsUserName turn is.has_files.part name) direction is.has_files.is_name;
      files = is.files;
      found = subst (λ (turn : Direction). AreFilesOf custom turn is.has_files.part is.files) direction is.has_files.found;
      defined = subst (λ (turn : Direction). IsDefinedBy turn is.files (user_system user)) direction made.defined;
    }

module _ (custom : Custom) (name : List ℕ) where
  -- a name has one pair of files in one direction
  same_direction : (direction turn : Direction) (files others : SystemFiles) → HasFiles custom name direction files → HasFiles custom name turn others → direction ≡ turn
  same_direction direction turn files others one other = (one_user_system direction turn one.part other.part name one.is_name other.is_name).0

  same_files : (direction turn : Direction) (files others : SystemFiles) → HasFiles custom name direction files → HasFiles custom name turn others → files ≡ others
  same_files direction turn files others one other =
      let known = one_user_system direction turn one.part other.part name one.is_name other.is_name in
      one_files custom turn other.part files others
      (subst (λ (w : Direction). AreFilesOf custom w other.part files) known.0 (subst (λ (p : List ℕ). AreFilesOf custom direction p files) known.1 one.found)) other.found

  -- and one admission
  both : (direction turn : Direction) (files others : SystemFiles) (old m n : StepLog) (r s : Result UserSystem AdmitFault) → HasFiles custom name direction files → HasFiles custom name turn others
      → AdmitsFiles direction files old r m → AdmitsFiles turn others old s n → AreOneAnswer admits.Memory r s m n
  both direction turn files others old m n r s one other does also =
      let directions = same_direction direction turn files others one other in
      let same = same_files direction turn files others one other in
      files_one direction files old m n r s does
      (subst (λ (w : Direction). AdmitsFiles w files old s n) (sym directions) (subst (λ (f : SystemFiles). AdmitsFiles turn f old s n) (sym same) also))

  -- files that are there are not refused
  there_or_not : (direction turn : Direction) (part : List ℕ) (files : SystemFiles) (load : LoadFault) → HasFiles custom name direction files → IsUserName turn part name → RefusesFiles custom turn part load → ⊥
  there_or_not direction turn part files load has named refuses =
      let known = one_user_system direction turn has.part part name has.is_name named in
      not_refused custom turn part files load (subst (λ (w : Direction). AreFilesOf custom w part files) known.0 (subst (λ (p : List ℕ). AreFilesOf custom direction p files) known.1 has.found)) refuses

  abbrev memory : SystemFault
  memory = faults.Step steps.Memory

  -- what was admitted and what was not
  not_both : (old m n : StepLog) (user : UserSystem) (fault : SystemFault) → IsAdmittedName custom name old user m → IsNotAdmitted custom name old fault n → fault ≡ memory
  not_both old m n user fault is not =
      not.fault_is ∙ ap (fault_of name) (memory_alone admits.Memory m n user not.refusal (both is.direction not.direction is.files not.files old m n (Ok user) (Err not.refusal) is.has_files not.has_files is.admits not.admits))

  admitted_or_refused : (old m n : StepLog) (user : UserSystem) (fault : SystemFault) → IsAdmittedName custom name old user m → RefusesName custom name old fault n → fault ≡ memory
  admitted_or_refused old m n user fault is (inl (none, known, same)) = absurd (none (is.direction, is.has_files.part, is.has_files.is_name))
  admitted_or_refused old m n user fault is (inr (inl (direction, part, named, (load, refuses, known), same))) = absurd (there_or_not is.direction direction part is.files load is.has_files named refuses)
  admitted_or_refused old m n user fault is (inr (inr not)) = not_both old m n user fault is not

  abbrev AreOneFault : (fault other : SystemFault) (m n : StepLog) → Type 0
  AreOneFault fault other m n = let bad : SystemFault → Result ⊤ SystemFault = λ f. Err f in AreOneAnswer memory (bad fault) (bad other) m n

  one_fault : (fault other : SystemFault) (m n : StepLog) → fault ≡ other → m ≡ n → AreOneFault fault other m n
  one_fault fault other m n same after = inl (ap (λ (f : SystemFault). Err f) same, after)

  refused_one : (old m n : StepLog) (fault other : SystemFault) → RefusesName custom name old fault m → RefusesName custom name old other n → AreOneFault fault other m n
  refused_one old m n fault other (inl (none, known, same)) (inl (also_none, also_known, also_same)) = one_fault fault other m n (known ∙ sym also_known) (same ∙ sym also_same)
  refused_one old m n fault other (inl (none, known, same)) (inr (inl (direction, part, named, rest, also))) = absurd (none (direction, part, named))
  refused_one old m n fault other (inl (none, known, same)) (inr (inr not)) = absurd (none (not.direction, not.has_files.part, not.has_files.is_name))
  refused_one old m n fault other (inr (inl (direction, part, named, rest, also))) (inl (none, known, same)) = absurd (none (direction, part, named))
  refused_one old m n fault other (inr (inr not)) (inl (none, known, same)) = absurd (none (not.direction, not.has_files.part, not.has_files.is_name))
  refused_one old m n fault other (inr (inl (direction, part, named, (load, refuses, known), same))) (inr (inl (turn, another, also_named, (also_load, also_refuses, also_known), also_same))) =
      let names = one_user_system direction turn part another name named also_named in
      let here = subst (λ (w : Direction). RefusesFiles custom w another load) names.0 (subst (λ (p : List ℕ). RefusesFiles custom direction p load) names.1 refuses) in
      one_fault fault other m n (known ∙ ap faults.Load (one_refusal custom turn another load also_load here also_refuses) ∙ sym also_known) (same ∙ sym also_same)
  refused_one old m n fault other (inr (inl (direction, part, named, (load, refuses, known), same))) (inr (inr not)) = absurd (there_or_not not.direction direction part not.files load not.has_files named refuses)
  refused_one old m n fault other (inr (inr not)) (inr (inl (direction, part, named, (load, refuses, known), same))) = absurd (there_or_not not.direction direction part not.files load not.has_files named refuses)
  refused_one old m n fault other (inr (inr one)) (inr (inr not)) =
      subst (λ (f : SystemFault). AreOneFault f other m n) (sym one.fault_is)
      (subst (λ (f : SystemFault). AreOneFault (fault_of name one.refusal) f m n) (sym not.fault_is)
      (raised_one (fault_of name) admits.Memory m n one.refusal not.refusal
      (both one.direction not.direction one.files not.files old m n (Err one.refusal) (Err not.refusal) one.has_files not.has_files one.admits not.admits)))

  same_admitted : (old m n : StepLog) (user other : UserSystem) → IsAdmittedName custom name old user m → IsAdmittedName custom name old other n → m ≡ n
  same_admitted old m n user other one also =
      (one_value admits.Memory m n user other (both one.direction also.direction one.files also.files old m n (Ok user) (Ok other) one.has_files also.has_files one.admits also.admits)).1

  -- one name has one outcome
  other_one : HasOneAnswer memory (AdmitsOther custom name)
  other_one old m n (Ok a) (Ok b) (user, one) (another, other) = inl (refl, same_admitted old m n user another one other)
  other_one old m n (Ok a) (Err fault) (user, one) other = inr (inr (ap (λ (f : SystemFault). Err f) (admitted_or_refused old m n user fault one other)))
  other_one old m n (Err fault) (Ok b) one (user, other) = inr (inl (ap (λ (f : SystemFault). Err f) (admitted_or_refused old n m user fault other one)))
  other_one old m n (Err fault) (Err other) one also = refused_one old m n fault other one also

  name_one : HasOneAnswer memory (AdmitsName custom name)
  name_one old m n r s (inl (built_in, one, same)) (inl (also_built_in, other, also)) = inl (one ∙ sym other, same ∙ sym also)
  name_one old m n r s (inl (built_in, rest, same)) (inr (none, other)) = absurd (none built_in)
  name_one old m n r s (inr (none, one)) (inl (built_in, rest, same)) = absurd (none built_in)
  name_one old m n r s (inr (none, one)) (inr (also_none, other)) = other_one old m n r s one other

-- and so have names one after another
pub names_one : AdmissionsHaveOneOutcome
names_one custom [] old m n r s one other = inl (one.0 ∙ sym other.0, one.1 ∙ sym other.1)
names_one custom (name ∷ names) old m n r s one other =
    then_one (faults.Step steps.Memory) (AdmitsName custom name) (λ done. AdmitsNames custom names) (name_one custom name) (λ done. names_one custom names) old m n r s one other
