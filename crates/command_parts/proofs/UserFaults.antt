-- The systems of users that a command names are admitted, or the command is refused.
use Rattle.std.proofs.Common.{ℕ, List, Ok, Err, refl}
use Rattle.digit_tuple.specs.declared.step_fault.StepFault.TheVariants as steps
use Rattle.dfa_loading.specs.Places as places
use Rattle.dfa_loading.specs.declared.fault.LoadFault.{LoadFault}
use Rattle.dfa_loading.specs.declared.fault.LoadFault.TheVariants as loads
use Rattle.wal_outside.specs.Views.{StoreView}
use Rattle.system_files.specs.SystemFiles.{Custom}
use Rattle.system_admission.specs.NameAdmissions.{as_loading}
use Rattle.system_admission.specs.SystemSteps.{no_steps}
use Rattle.system_admission.specs.UserSystems as admissions
use Rattle.system_admission.specs.UserSystems.{FailsNames}
use Rattle.system_admission.specs.declared.system_fault.SystemFault.{SystemFault}
use Rattle.system_admission.specs.declared.system_fault.SystemFault.TheVariants as systems
use Rattle.system_admission.specs.declared.user_systems.UserSystems.{UserSystems}
use Rattle.command_parts.specs.Checks.{Fails}
use Rattle.command_parts.specs.StoreReads.{IsReadFault, HasRead, FromTexts}
use Rattle.command_parts.specs.SystemChecks.{systems_known}
use Rattle.command_parts.specs.SystemFaults.{fault_of_system}
use Rattle.command_parts.specs.UserSystems.{AdmitsUsers}

-- why the systems are refused, as a command's fault
fails_so : (limit : ℕ) (custom : Custom) (names : List (List ℕ)) (fault : SystemFault) → FailsNames custom names (no_steps limit) fault → Fails (systems_known limit custom names) (fault_of_system fault)
fails_so limit custom names (systems.Load (loads.Store folder at)) fails = fails
fails_so limit custom names (systems.Load loads.Memory) fails = tt
fails_so limit custom names (systems.Step steps.Memory) fails = tt
fails_so limit custom names (systems.Load (loads.Unknown folder at)) (is, new, admits) = (systems.Load (loads.Unknown folder at), refl, (new, admits))
fails_so limit custom names (systems.Load (loads.File folder at flaw)) fails = (systems.Load (loads.File folder at flaw), refl, fails)
fails_so limit custom names (systems.NotAdmitted system law) fails = (systems.NotAdmitted system law, refl, fails)
fails_so limit custom names (systems.Step (steps.Letters step)) fails = (systems.Step (steps.Letters step), refl, fails)
fails_so limit custom names (systems.Step (steps.States step)) fails = (systems.Step (steps.States step), refl, fails)

-- what is read for systems is read for a command
caused_so : (f : LoadFault) (old new : StoreView) → places.IsCausedBy f old new → IsReadFault (fault_of_system (systems.Load f)) old new
caused_so (loads.Unknown folder name) old new is = is
caused_so (loads.File folder name flaw) old new is = is
caused_so (loads.Store folder name) old new is = is
caused_so loads.Memory old new is = is

read_so : (X : Type 0) {Y : Type 0} (old new : StoreView) (fault : SystemFault) → places.HasRead old (as_loading {X = X} (Err fault)) new → HasRead {X = Y} old (Err (fault_of_system fault)) new
read_so X old new (systems.Load fault) h = record { files = h.files; later = h.later; cause = caused_so fault old new h.cause }
read_so X old new (systems.NotAdmitted name law) h = record { files = h.files; later = h.later; cause = h.cause }
read_so X old new (systems.Step (steps.Letters step)) h = record { files = h.files; later = h.later; cause = h.cause }
read_so X old new (systems.Step (steps.States step)) h = record { files = h.files; later = h.later; cause = h.cause }
read_so X old new (systems.Step steps.Memory) h = record { files = h.files; later = h.later; cause = h.cause }

pub users_refused : (limit : ℕ) (names : List (List ℕ)) (old new : StoreView) (fault : SystemFault) → admissions.AdmitsUsers limit names old (Err fault) new → FromTexts (AdmitsUsers limit names) old (Err (fault_of_system fault)) new
users_refused limit names old new fault admits = record {
  found = admits.found;
  in_some_folder = admits.in_some_folder;
  reported = admits.reported;
  gives = λ custom all. fails_so limit custom names fault (admits.gives custom all);
  has_read = read_so UserSystems old new fault admits.has_read;
}

pub users_admitted : (limit : ℕ) (names : List (List ℕ)) (old new : StoreView) (users : UserSystems) → admissions.AdmitsUsers limit names old (Ok users) new → FromTexts (AdmitsUsers limit names) old (Ok users) new
users_admitted limit names old new users admits = record {
  found = admits.found;
  in_some_folder = admits.in_some_folder;
  reported = admits.reported;
  gives = admits.gives;
  has_read = record { files = admits.has_read.files; later = admits.has_read.later; cause = admits.has_read.cause };
}
