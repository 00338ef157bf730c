-- What holds of a user's system that is not admitted.
use Rattle.std.specs.Prelude.{◌≡◌, ℕ, Bool, List, Some, Err}
use Rattle.wal_outside.specs.Files.{Files}
use Rattle.wal_outside.specs.Views.{StoreView}
use Rattle.digit_tuple.specs.declared.direction.Direction.{Direction}
use Rattle.numeration.specs.Systems.{System}
use Rattle.adder_check.specs.Admission.{IsFirstFault}
use Rattle.adder_check.specs.declared.admit_fault.AdmitFault.TheVariants as admits
use Rattle.adder_check.specs.declared.admit_fault.Law.{Law}
use Rattle.system_files.specs.SystemFiles.{Custom, SystemFiles}
use Rattle.system_files.specs.UserSystems.{AreWordsOf, AddsInFile}
use Rattle.system_admission.specs.SystemSteps.{HasFiles}
use Rattle.definitions.specs.Trees.{Ledger, custom_of}
use Rattle.command_parts.specs.declared.system_refusal.SystemRefusal.TheVariants as system_refusals
use Rattle.command_parts.specs.declared.refusal.Refusal.TheVariants as refusals
use Rattle.command_parts.specs.declared.fault.Fault.TheVariants as faults
use Rattle.session_cli.specs.Commands.{Commands}

-- The name is that of a user's system, whose files are there. Of the words that the language's file accepts, and of the sums of the adder's file, this law is
-- false and each law before it is true.
pub record BreaksLaw (custom : Custom) (name : List ℕ) (law : Law) : Type 0 where
  pub direction : Direction
  pub files : SystemFiles
  pub has_files : HasFiles custom name direction files
  pub s : System
  pub words : AreWordsOf direction files s
  pub first : IsFirstFault s (AddsInFile direction files s) (admits.NotAdmitted law)

-- a command that is refused by F15 with a law names such a system
abbrev pub RefusedSystems : Type 0
RefusedSystems = (limit : ℕ) (ledger : Ledger) (files : Files) (old new : StoreView) (command : List ℕ) (shown : Bool) (name : List ℕ) (law : Law)
    → old.files ≡ Some files → Commands limit ledger old command shown (Err (faults.Refused (refusals.System (system_refusals.NotAdmitted name law)))) new → BreaksLaw (custom_of ledger) name law
