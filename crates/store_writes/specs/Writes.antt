-- What an action of a command does to a store.
use Rattle.std.specs.Prelude.{◌≡◌, ℕ, ◌≤◌, List, Option, Some, IfOk, Result, Ok, Err}
use Rattle.std.specs.Option.{option_map}
use Rattle.wal_outside.specs.Causes.{Rose}
use Rattle.wal_outside.specs.Files.{Files, put}
use Rattle.wal_outside.specs.Places.{Place}
use Rattle.wal_outside.specs.Views.{StoreView}
use Rattle.command_parts.specs.declared.fault.Fault.{Fault}
use Rattle.command_parts.specs.declared.fault.Fault.TheVariants as faults
use Rattle.command_parts.specs.declared.file_change.Action.{Action}
use Rattle.command_parts.specs.declared.file_change.Action.TheVariants as actions

-- files after a write, where they are reported
abbrev pub WritesFile : {X : Type 0} → Option Files → Place → List ℕ → Result X Fault → Option Files → Type 0
WritesFile old place stored (Ok _) new = new ≡ option_map (λ files. put files place.0 place.1 stored) old
WritesFile old place stored (Err fault) new = new ≡ old

-- a write fails because the store did, or because memory ran out
abbrev pub IsWriteFault : Place → StoreView → StoreView → Fault → Type 0
IsWriteFault place old new (faults.Store folder name) = (folder ≡ place.0) × (name ≡ place.1) × Rose old.faults new.faults × (new.failed ≡ option_map (λ _. Some (folder, name)) old.failed)
IsWriteFault place old new faults.Memory = new.failed ≡ old.failed
IsWriteFault place old new _ = ⊥

abbrev pub WriteCause : {X : Type 0} → Place → StoreView → StoreView → Result X Fault → Type 0
WriteCause place old new (Ok _) = new.failed ≡ old.failed
WriteCause place old new (Err fault) = IsWriteFault place old new fault

-- what writing a text at a place does to the store
pub record WritesChange {X : Type 0} (old : StoreView) (place : Place) (stored : List ℕ) (result : Result X Fault) (new : StoreView) : Type 0 where
  pub files : WritesFile old.files place stored result new.files
  pub later : old.faults ≤ new.faults
  pub cause : WriteCause place old new result

-- An action was done, and this is to be printed: a change's text is written, and then what the change prints; or a text is printed, and nothing is
-- written.
abbrev pub DoesAction : StoreView → Action → Result (List ℕ) Fault → StoreView → Type 0
DoesAction old (actions.Write change) result new = WritesChange old (change.folder, change.name) change.made.stored.items result new × IfOk result (λ printed. printed ≡ change.made.printed)
DoesAction old (actions.Print printed) result new = (result ≡ Ok printed) × (new ≡ old)
