-- Command languages: how their commands are answered, and what is printed of the answers.
use Rattle.std.specs.Prelude.{◌≡◌, ℕ, ◌<◌, Bool, true, List, length, Option, None, IfSome, Result, Ok, Err}
use Rattle.std.specs.Option.{is_some}
use Rattle.wal_outside.specs.Files.{Files}
use Rattle.wal_outside.specs.Places.{Place}
use Rattle.script_runs.specs.declared.script_fault.ScriptFault.{ScriptFault}
use Rattle.script_runs.specs.declared.script_fault.ScriptFault.TheVariants as script

-- what an accepted command does: it makes something; or the commands of a text come next; or the run ends
pub data Deed (Success : Type 0) : Type 0 where
  Enters : Success → Deed Success
  Loads : List ℕ → Deed Success
  Ends : Deed Success

-- a command language, whose commands are refused by these faults
pub record CommandLanguage (Fault : Type 0) : Type 1 where
  -- what may be known of the texts of a store, and what an accepted command may make
  pub Ledger : Type 0
  pub Success : Type 0
  -- what is known at the beginning, by the store's files where these are reported; and whether files are those that are known
  pub first : Option Files → Ledger
  pub stores : Ledger → Files → Type 0
  -- how a command is answered that has its terminator and is nested in so many loads
  pub answers : ℕ → Ledger → List ℕ → Result (Deed Success) Fault → Type 0
  -- what a command that makes something changes of the files, where these are reported, and what is known afterwards
  pub changes : Ledger → Success → Option Files → Option Files → Type 0
  pub after : Ledger → Success → Ledger
  -- the file at which the store failed, where a fault is the store's; whether memory ran out; and the fault of a text that is no command
  pub failed_at : Fault → Option Place
  pub is_memory : Fault → Bool
  pub of_script : ScriptFault → Fault
  -- whether a run ends with a command that is refused so
  pub ends_run : Fault → Bool
  -- what is printed of an accepted command, whose steps are shown or not, and of one that is refused and begins on a line
  pub success_text : Bool → Success → List ℕ
  pub fault_line : ℕ → Fault → List ℕ

-- a command is accepted, or refused by a fault
abbrev pub Reply : {F : Type 0} → CommandLanguage F → Type 0
Reply {F} l = Result (Deed l.Success) F

-- whether a fault is the store's
abbrev pub is_store_fault : {F : Type 0} → CommandLanguage F → F → Bool
is_store_fault l fault = is_some (l.failed_at fault)

-- what holds of each command language
pub record IsSound {F : Type 0} (l : CommandLanguage F) : Type 0 where
  -- the files are those that are known at the beginning, and after each command that makes something
  pub first_stores : (files : Option Files) → IfSome files (l.stores (l.first files))
  pub after_stores : (depth : ℕ) (ledger known : l.Ledger) (text : List ℕ) (success : l.Success) (old new : Option Files) → l.answers depth known text (Ok (Enters success)) → IfSome old (l.stores ledger) → IfSome old (λ (files : Files). known ≡ ledger) → l.changes known success old new → IfSome new (l.stores (l.after ledger success))
  -- a command that is too long is refused as a text that is no command
  pub too_long : (depth : ℕ) (ledger : l.Ledger) (text : List ℕ) → 65536 < length text → l.answers depth ledger text (Err (l.of_script script.Long))
  -- no such text is refused by the store
  pub not_by_store : (fault : ScriptFault) → l.failed_at (l.of_script fault) ≡ None
  -- and past the limit nothing comes
  pub ends_at_limit : l.ends_run (l.of_script script.PastLimit) ≡ true
