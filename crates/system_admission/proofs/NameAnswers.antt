-- What is answered of a name.
use Rattle.std.proofs.Common.{◌≡◌, ℕ, List, Result, Ok, Err, MatchResult, inl, inr, refl, sym, ap, ◌∙◌, subst}
use Rattle.std.specs.Prelude.{⊤}
use Rattle.digit_tuple.specs.Steps.{StepLog}
use Rattle.digit_tuple.specs.declared.direction.Direction.{Direction}
use Rattle.num_system.specs.Sealed.{SystemValue, IsSealed, system_of}
use Rattle.wal_outside.specs.Views.{StoreView}
use Rattle.dfa_loading.specs.Places.{HasRead}
use Rattle.dfa_loading.specs.declared.fault.LoadFault.{LoadFault}
use Rattle.dfa_loading.specs.declared.fault.LoadFault.TheVariants as loads
use Rattle.adder_check.specs.Admission.{user_system}
use Rattle.adder_check.specs.declared.admit_fault.AdmitFault.{AdmitFault}
use Rattle.adder_check.specs.declared.admit_fault.AdmitFault.TheVariants as admits
use Rattle.adder_check.specs.declared.user_system.UserSystem.{UserSystem}
use Rattle.system_names.specs.Names.{IsBuiltInName}
use Rattle.system_names.specs.UserNames.{IsUserName}
use Rattle.system_files.specs.SystemFiles.{Custom, SystemFiles}
use Rattle.system_files.specs.SystemLoading.{FailsFiles}
use Rattle.system_files.specs.UserSystems.{IsDefinedBy, IsUserSystem}
use Rattle.system_admission.specs.Admissions.{AdmitsFiles, IsFirstFaultIn, IsSystemIn}
use Rattle.system_admission.specs.NameAdmissions.{AdmitsUnder, FailsName, IsNamedSystem, as_loading}
use Rattle.system_admission.specs.SystemSteps.{HasFiles, RefusesName, fault_of}
use Rattle.system_admission.specs.declared.system_fault.SystemFault.{SystemFault}
use Rattle.system_admission.specs.declared.system_fault.SystemFault.TheVariants as faults

module _ (custom : Custom) (name : List ℕ) (other : ¬ IsBuiltInName name) (old : StepLog) where
  -- its files are not loaded
  pub not_loaded : (read_direction : Direction) (part : List ℕ) (load : LoadFault) → IsUserName read_direction part name → FailsFiles custom read_direction part load → FailsName custom name old old (faults.Load load)
  not_loaded read_direction part (loads.Unknown folder at) named fails = inr (other, inr (inl (read_direction, part, named, (loads.Unknown folder at, fails, refl), refl)))
  not_loaded read_direction part (loads.File folder at flaw) named fails = inr (other, inr (inl (read_direction, part, named, (loads.File folder at flaw, fails, refl), refl)))
  not_loaded read_direction part (loads.Store folder at) named fails = ((other, (read_direction, part, named, fails)), refl)
  not_loaded read_direction part loads.Memory named fails = tt

  module _ (new : StepLog) (read_direction : Direction) (files : SystemFiles) (has : HasFiles custom name read_direction files) where
    refused : (refusal : AdmitFault) → AdmitsFiles read_direction files old (Err refusal) new → IsFirstFaultIn read_direction files refusal → RefusesName custom name old (fault_of name refusal) new
    refused refusal does first = inr (inr (record { direction = read_direction; files = files; has_files = has; refusal = refusal; admits = does; first = first; fault_is = refl }))

    fails : (refusal : AdmitFault) → AdmitsFiles read_direction files old (Err refusal) new → IsFirstFaultIn read_direction files refusal → FailsName custom name old new (fault_of name refusal)
    fails (admits.NotAdmitted law) does first = inr (other, refused (admits.NotAdmitted law) does first)
    fails (admits.Letters step) does first = inr (other, refused (admits.Letters step) does first)
    fails (admits.States step) does first = inr (other, refused (admits.States step) does first)
    fails admits.Memory does first = tt

    -- its files are not admitted
    pub not_admitted : (fault : SystemFault) → AdmitsUnder name read_direction files old new (Err fault) → FailsName custom name old new fault
    not_admitted fault (inl ran_out) = subst (FailsName custom name old new) (sym ran_out) tt
    not_admitted fault (inr (refusal, does, first, is)) = subst (FailsName custom name old new) (sym is) (fails refusal does first)

    -- they are admitted, and the system is sealed
    pub is_named : (user : UserSystem) (s : SystemValue) → AdmitsFiles read_direction files old (Ok user) new → IsSystemIn read_direction files user → IsSealed s → system_of s ≡ user_system user → s.direction ≡ user.direction
        → IsNamedSystem custom name old new s
    is_named user s does is sealed system direction = record {
      admits = inr (other, (user, record { direction = read_direction; files = files; has_files = has; admits = does }));
      sealed = sealed;
      means = subst IsMeant (sym (direction ∙ is.direction)) (record { part = has.part; is_name = has.is_name; files = files; found = has.found; defined = subst (IsDefinedBy read_direction files) (sym system) is.defined });
    }
      where
        IsMeant : Direction → Type 0
        IsMeant turn = IsUserSystem custom name turn (system_of s)

-- what holds of a fault holds of the answer with it
pub failing : {A E : Type 0} (P : A → Type 0) (Q : E → Type 0) (r : Result A E) (fault : E) → r ≡ Err fault → Q fault → MatchResult r P Q
failing {A = A} {E = E} P Q r fault is holds = let M : Result A E → Type 0 = λ x. MatchResult x P Q in subst M (sym is) holds

-- a fault of an admission is none of loading
pub under_loading : (name : List ℕ) (read_direction : Direction) (files : SystemFiles) (old new : StepLog) (fault : SystemFault) → AdmitsUnder name read_direction files old new (Err fault)
    → as_loading (let bad : Result SystemValue SystemFault = Err fault in bad) ≡ Ok tt
under_loading name read_direction files old new fault (inl ran_out) = ap (λ (f : SystemFault). as_loading (let bad : Result SystemValue SystemFault = Err f in bad)) ran_out
under_loading name read_direction files old new fault (inr (refusal, does, first, is)) = ap (λ (f : SystemFault). as_loading (let bad : Result SystemValue SystemFault = Err f in bad)) is ∙ by refusal
  where
    by : (r : AdmitFault) → as_loading (let bad : Result SystemValue SystemFault = Err (fault_of name r) in bad) ≡ Ok tt
    by (admits.NotAdmitted law) = refl
    by (admits.Letters step) = refl
    by (admits.States step) = refl
    by admits.Memory = refl

pub read_before : {X Y : Type 0} (old new : StoreView) (loaded : X) (r : Result Y SystemFault) → as_loading r ≡ Ok tt → HasRead old (let good : Result X LoadFault = Ok loaded in good) new → HasRead old (as_loading r) new
read_before old new loaded r is read = subst (λ (l : Result ⊤ LoadFault). HasRead old l new) (sym is) (record { files = read.files; later = read.later; cause = read.cause })

pub read_failed : {Y : Type 0} (old new : StoreView) (fault : LoadFault) (r : Result Y SystemFault) → r ≡ Err (faults.Load fault) → HasRead {X = SystemFiles} old (Err fault) new → HasRead old (as_loading r) new
read_failed {Y = Y} old new fault r is read = let Reads : Result Y SystemFault → Type 0 = λ x. HasRead old (as_loading x) new in subst Reads (sym is) (record { files = read.files; later = read.later; cause = read.cause })
