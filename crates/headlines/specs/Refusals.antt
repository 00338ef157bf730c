-- What holds of a refused command.
use Rattle.std.specs.Prelude.{◌≡◌, ◌⊎◌, ℕ, Bool, List, IfSome, Err}
use Rattle.wal_outside.specs.Causes.{Rose}
use Rattle.wal_outside.specs.Files.{Files}
use Rattle.wal_outside.specs.Views.{StoreView}
use Rattle.wal_outside.specs.declared.folder.Folder.{Folder}
use Rattle.definitions.specs.Trees.{Ledger}
use Rattle.command_parts.specs.declared.refusal.Refusal.{Refusal}
use Rattle.command_parts.specs.declared.fault.Fault.{Fault}
use Rattle.command_parts.specs.declared.fault.Fault.TheVariants as faults
use Rattle.session_cli.specs.Commands.{Commands}
use Rattle.session_cli.specs.Outcomes.{checks_of}

-- why: by a check of the command, where those before it pass; or the store failed; or there was no memory
abbrev pub IsCause : ℕ → Ledger → List ℕ → StoreView → StoreView → Fault → Type 0
IsCause limit known command old new fault =
    ((refusal : Refusal) × (fault ≡ faults.Refused refusal) × (checks_of limit known command).answers (Err refusal))
    ⊎ (((folder : Folder) × (name : List ℕ) × (fault ≡ faults.Store folder name) × Rose old.faults new.faults)
    ⊎ (fault ≡ faults.Memory))

-- no file changed, and this is the cause
pub record IsRefusal (limit : ℕ) (ledger : Ledger) (old new : StoreView) (command : List ℕ) (fault : Fault) : Type 0 where
  pub kept : new.files ≡ old.files
  pub known : Ledger
  pub known_is : IfSome old.files (λ (files : Files). known ≡ ledger)
  pub cause : IsCause limit known command old new fault

-- of each command that is refused
abbrev pub Refusals : Type 0
Refusals = (limit : ℕ) (ledger : Ledger) (old new : StoreView) (command : List ℕ) (shown : Bool) (fault : Fault)
    → Commands limit ledger old command shown (Err fault) new → IsRefusal limit ledger old new command fault
