-- One command, and the store before and after it.
use Rattle.std.specs.Prelude.{◌≡◌, ℕ, ◌≤◌, Bool, false, List, Option, Some, IfOk, IfSome, IsTrue, Result, Ok, Err}
use Rattle.std.specs.Option.{is_some}
use Rattle.wal_outside.specs.Causes.{Rose}
use Rattle.wal_outside.specs.Files.{Files}
use Rattle.wal_outside.specs.Places.{Place}
use Rattle.wal_outside.specs.Views.{StoreView}
use Rattle.script_runs.specs.Replies.{failed_by}
use Rattle.command_parts.specs.declared.fault.Fault.{Fault}
use Rattle.definitions.specs.Trees.{Ledger, custom_of}
use Rattle.command_parts.specs.Accepting.{Answer}
use Rattle.command_parts.specs.Lines.{accepted_text}
use Rattle.session_cli.specs.Outcomes.{checks_of}
use Rattle.session_cli.specs.SessionLanguage.{IsAnswer, ChangesFiles}
use Rattle.command_parts.specs.StoreFailures.{failed_at}

-- A call's result is the answer: what an accepted command prints, or the same fault.
abbrev pub Gives : Bool → Result (List ℕ) Fault → Answer → Type 0
Gives shown (Ok printed) (Ok accepted) = printed ≡ accepted_text shown accepted
Gives shown (Ok printed) (Err fault) = ⊥
Gives shown (Err fault) (Ok accepted) = ⊥
Gives shown (Err fault) (Err refusal) = fault ≡ refusal

-- a refused command changes no file
abbrev pub Changes : Ledger → Option Files → Answer → Option Files → Type 0
Changes ledger old (Ok accepted) new = ChangesFiles (custom_of ledger) accepted old new
Changes ledger old (Err fault) new = new ≡ old

abbrev pub is_refused_by_store : Answer → Bool
is_refused_by_store (Ok accepted) = false
is_refused_by_store (Err fault) = is_some (failed_at fault)

abbrev pub failed_after : Option (Option Place) → Answer → Option (Option Place)
failed_after old (Ok accepted) = old
failed_after old (Err fault) = failed_by (failed_at fault) old

-- A store before and after a command. A store fault comes only where the store's count of faults rose.
pub record Leaves (known : Ledger) (old : StoreView) (answer : Answer) (new : StoreView) : Type 0 where
  pub files : Changes known old.files answer new.files
  pub later : old.faults ≤ new.faults
  pub cause : IsTrue (is_refused_by_store answer) → Rose old.faults new.faults
  pub failed : new.failed ≡ failed_after old.failed answer

-- A command has an answer that the call gives. Where the store reports its files, it is answered by what is known of it, and else by
-- something that may be known.
pub record Commands (limit : ℕ) (ledger : Ledger) (old : StoreView) (text : List ℕ) (shown : Bool) (result : Result (List ℕ) Fault) (new : StoreView) : Type 0 where
  pub answer : Answer
  pub gives : Gives shown result answer
  pub known : Ledger
  pub known_is : IfSome old.files (λ (files : Files). known ≡ ledger)
  pub answered : IsAnswer (checks_of limit known text) answer
  pub stored : Leaves known old answer new
