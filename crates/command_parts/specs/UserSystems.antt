-- The systems of users that a command names, admitted by its first steps, or why they are not.
use Rattle.std.specs.Prelude.{ℕ, List, Result, MatchResult}
use Rattle.system_files.specs.SystemFiles.{Custom}
use Rattle.system_admission.specs.UserSystems.{AreAdmitted}
use Rattle.system_admission.specs.declared.user_systems.UserSystems.{UserSystems}
use Rattle.command_parts.specs.declared.fault.Fault.{Fault}
use Rattle.command_parts.specs.Checks.{Fails}
use Rattle.command_parts.specs.SystemChecks.{systems_known}

abbrev pub AdmitsUsers : ℕ → List (List ℕ) → Custom → Result UserSystems Fault → Type 0
AdmitsUsers limit names custom result = MatchResult result (AreAdmitted limit names custom) (Fails (systems_known limit custom names))
