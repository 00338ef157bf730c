-- One command: from what its checks give and what the write did to its answer.
use Rattle.std.proofs.Common.{◌≡◌, ℕ, Bool, List, Option, None, Some, IfSome, IsTrue, Result, Ok, Err, refl, sym, ap, ◌∙◌, subst, inl, inr, arith}
use Rattle.std.specs.Option.{option_map}
use Rattle.wal_outside.specs.Causes.{Rose}
use Rattle.wal_outside.specs.Files.{Files, put}
use Rattle.wal_outside.specs.Places.{Place}
use Rattle.wal_outside.specs.Views.{StoreView}
use Rattle.command_parts.specs.declared.fault.Fault.{Fault}
use Rattle.command_parts.specs.declared.fault.Fault.TheVariants as faults
use Rattle.command_parts.specs.declared.file_change.Action.{Action}
use Rattle.command_parts.specs.declared.file_change.Action.TheVariants as actions
use Rattle.command_parts.specs.declared.file_change.FileChange.{FileChange}
use Rattle.command_parts.specs.Checks.{Fails}
use Rattle.definitions.specs.Texts.{Stores}
use Rattle.definitions.specs.Trees.{Ledger, ledger_of, custom_of}
use Rattle.session_cli.specs.Outcomes.{checks_of}
use Rattle.script_runs.specs.Replies.{failed_by}
use Rattle.session_cli.specs.SessionLanguage.{IsAnswer}
use Rattle.command_parts.specs.StoreFailures.{failed_at}
use Rattle.command_parts.specs.Accepting.{Success, Said, Accepted, Storing, Saying}
use Rattle.command_parts.specs.FileChanges.{IsFileChangeOf, IsAction, IsActionOf}
use Rattle.store_writes.specs.Writes.{DoesAction, WritesChange}
use Rattle.session_cli.specs.Commands.{Commands}
use Rattle.command_parts.specs.Lines.{said_text}
use Rattle.command_parts.specs.StoreReads.{IsReadFault, HasRead}
use Rattle.command_parts.proofs.StoreFaults.{is_store_fault}
use Rattle.command_parts.proofs.StoreReads.{rises}
use Rattle.command_parts.proofs.StoredLedgers.{files_store}

-- a ledger by which a command over these files is answered: that of the files where they are reported, and else that of what was found
pub record IsAnswering (reported : Option Files) (ledger : Ledger) (found : Files) : Type 0 where
  pub known : Ledger
  pub known_is : IfSome reported (λ files. known ≡ ledger)
  pub stores : Stores known found

pub answering : (reported : Option Files) (ledger : Ledger) (found : Files) → IfSome reported (Stores ledger) → IfSome reported (λ files. found ≡ files) → IsAnswering reported ledger found
answering None ledger found stores is = record { known = ledger_of found; known_is = tt; stores = files_store found }
answering (Some files) ledger found stores is = record { known = ledger; known_is = refl; stores = subst (Stores ledger) (sym is) stores }

-- a store fault comes only where the store's count of faults rose
pub cause_of : (old new : StoreView) (f : Fault) → IsReadFault f old new → IsTrue (is_store_fault f) → Rose old.faults new.faults
cause_of old new (faults.Store folder name) read is = read.0
cause_of old new faults.Memory read is = cc
cause_of old new (faults.Refused refusal) read is = cc

-- and is the last one then
pub failed_of : (old new : StoreView) (f : Fault) → IsReadFault f old new → new.failed ≡ failed_by (failed_at f) old.failed
failed_of old new (faults.Store folder name) read = read.1
failed_of old new faults.Memory read = read
failed_of old new (faults.Refused refusal) read = read

-- a command that its checks refuse
pub refused_command : (limit : ℕ) (ledger : Ledger) (old new : StoreView) (text : List ℕ) (shown : Bool) (fault : Fault) (found : Files) → IsAnswering old.files ledger found → ((known : Ledger) → Stores known found → Fails (checks_of limit known text) fault)
    → HasRead {X = Action} old (Err fault) new → Commands limit ledger old text shown (Err fault) new
refused_command limit ledger old new text shown fault found by refused read = record {
  answer = Err fault;
  gives = refl;
  known = by.known;
  known_is = by.known_is;
  answered = answer_of fault (refused by.known by.stores);
  stored = record { files = read.files; later = read.later; cause = cause_of old new fault read.cause; failed = failed_of old new fault read.cause };
}
  where
    answer_of : (f : Fault) → Fails (checks_of limit by.known text) f → IsAnswer (checks_of limit by.known text) (Err f)
    answer_of faults.Memory refused = tt
    answer_of (faults.Store folder name) refused = inl refused
    answer_of (faults.Refused refusal) refused = refused

same_put : (old : Option Files) (place other : Place) (stored : List ℕ) → place.0 ≡ other.0 → place.1 ≡ other.1 → option_map (λ files. put files place.0 place.1 stored) old ≡ option_map (λ files. put files other.0 other.1 stored) old
same_put old place other stored folders names = λ i. option_map (λ files. put files (folders i) (names i) stored) old

-- a command whose files were read, and whose action was to be done
module _ (limit : ℕ) (ledger : Ledger) (old mid new : StoreView) (text : List ℕ) (shown : Bool) (found : Files) (by : IsAnswering old.files ledger found) where
  module _ (change : FileChange) (success : Success) (answers : (checks_of limit by.known text).answers (Ok (Storing success))) (is_of : IsFileChangeOf (custom_of by.known) success shown change) (read : HasRead {X = Action} old (Ok (actions.Write change)) mid) where
    -- it stores something
    stored_command : (printed : List ℕ) → WritesChange {X = List ℕ} mid (change.folder, change.name) change.made.stored.items (Ok printed) new → printed ≡ change.made.printed → Commands limit ledger old text shown (Ok printed) new
    stored_command printed w is = record {
      answer = Ok (Storing success);
      gives = is ∙ is_of.printed_is;
      known = by.known;
      known_is = by.known_is;
      answered = answers;
      stored = record {
        files = (change.made.stored.items, is_of.has_text, w.files ∙ (ap (λ (o : Option Files). option_map (λ files. put files change.folder change.name change.made.stored.items) o) read.files ∙ same_put old.files (change.folder, change.name) (success.folder, success.name) change.made.stored.items is_of.folder_is is_of.name_is));
        later = omega (arith, w.later, read.later);
        cause = λ is. cc;
        failed = w.cause ∙ read.cause;
      };
    }

    -- or that failed
    unstored_command : (fault : Fault) → WritesChange {X = List ℕ} mid (change.folder, change.name) change.made.stored.items (Err fault) new → Commands limit ledger old text shown (Err fault) new
    unstored_command fault wrote = by_fault fault wrote
      where
        by_fault : (f : Fault) → WritesChange {X = List ℕ} mid (change.folder, change.name) change.made.stored.items (Err f) new → Commands limit ledger old text shown (Err f) new
        by_fault (faults.Store folder at) w = record {
          answer = Err (faults.Store folder at);
          gives = refl;
          known = by.known;
          known_is = by.known_is;
          answered = inr (success, answers, w.cause.0 ∙ is_of.folder_is, w.cause.1 ∙ is_of.name_is);
          stored = record {
            files = w.files ∙ read.files;
            later = omega (arith, w.later, read.later);
            cause = λ is. rises old.faults mid.faults new.faults read.later w.cause.2;
            failed = w.cause.3 ∙ ap (λ (o : Option (Option Place)). option_map (λ _. Some (folder, at)) o) read.cause;
          };
        }
        by_fault faults.Memory w = record {
          answer = Err faults.Memory;
          gives = refl;
          known = by.known;
          known_is = by.known_is;
          answered = tt;
          stored = record { files = w.files ∙ read.files; later = omega (arith, w.later, read.later); cause = λ is. cc; failed = w.cause ∙ read.cause };
        }
        by_fault (faults.Refused refusal) w = absurd w.cause

  -- it says something
  said_command : (printed : List ℕ) (said : Said) → (checks_of limit by.known text).answers (Ok (Saying said)) → printed ≡ said_text shown said → HasRead {X = Action} old (Ok (actions.Print printed)) mid → new ≡ mid → Commands limit ledger old text shown (Ok printed) new
  said_command printed said answers is read same = subst (λ (store : StoreView). Commands limit ledger old text shown (Ok printed) store) (sym same) record {
    answer = Ok (Saying said);
    gives = is;
    known = by.known;
    known_is = by.known_is;
    answered = answers;
    stored = record { files = read.files; later = read.later; cause = λ is. cc; failed = read.cause };
  }

  done_print : (said printed : List ℕ) → IsAction (custom_of by.known) (checks_of limit by.known text) shown (actions.Print said) → HasRead {X = Action} old (Ok (actions.Print said)) mid → printed ≡ said → new ≡ mid → Commands limit ledger old text shown (Ok printed) new
  done_print said printed a read is same = subst (λ (l : List ℕ). let r : Result (List ℕ) Fault = Ok l in Commands limit ledger old text shown r new) (sym is) (by_accepted a.accepted a.answers a.is_of)
    where
      by_accepted : (accepted : Accepted) → (checks_of limit by.known text).answers (Ok accepted) → IsActionOf (custom_of by.known) accepted shown (actions.Print said) → Commands limit ledger old text shown (Ok said) new
      by_accepted (Storing success) answers is_of = absurd is_of
      by_accepted (Saying prints_checked) answers is_of = said_command said prints_checked answers is_of read same

  done_command : (action : Action) (printed : List ℕ) → IsAction (custom_of by.known) (checks_of limit by.known text) shown action → HasRead {X = Action} old (Ok action) mid → DoesAction mid action (Ok printed) new → Commands limit ledger old text shown (Ok printed) new
  done_command (actions.Write change) printed a read (wrote, is) = by_accepted a.accepted a.answers a.is_of
    where
      by_accepted : (accepted : Accepted) → (checks_of limit by.known text).answers (Ok accepted) → IsActionOf (custom_of by.known) accepted shown (actions.Write change) → Commands limit ledger old text shown (Ok printed) new
      by_accepted (Storing success) answers is_of = stored_command change success answers is_of read printed wrote is
      by_accepted (Saying said) answers is_of = absurd is_of
  done_command (actions.Print said) printed a read (is, same) = done_print said printed a read (same_ok printed said is) same
    where
      same_ok : (x y : List ℕ) → (let r : Result (List ℕ) Fault = Ok x in r) ≡ Ok y → x ≡ y
      same_ok x y e = cc

  undone_command : (action : Action) (fault : Fault) → IsAction (custom_of by.known) (checks_of limit by.known text) shown action → HasRead {X = Action} old (Ok action) mid → DoesAction mid action (Err fault) new → Commands limit ledger old text shown (Err fault) new
  undone_command (actions.Write change) fault a read (wrote, is) = by_accepted a.accepted a.answers a.is_of
    where
      by_accepted : (accepted : Accepted) → (checks_of limit by.known text).answers (Ok accepted) → IsActionOf (custom_of by.known) accepted shown (actions.Write change) → Commands limit ledger old text shown (Err fault) new
      by_accepted (Storing success) answers is_of = unstored_command change success answers is_of read fault wrote
      by_accepted (Saying said) answers is_of = absurd is_of
  undone_command (actions.Print said) fault a read (is, same) = absurd (no_fault said fault is)
    where
      no_fault : (x : List ℕ) (f : Fault) → (let r : Result (List ℕ) Fault = Err f in r) ≡ Ok x → ⊥
      no_fault x f e = cc

  pub acted_command : (action : Action) (result : Result (List ℕ) Fault) → IsAction (custom_of by.known) (checks_of limit by.known text) shown action → HasRead {X = Action} old (Ok action) mid → DoesAction mid action result new → Commands limit ledger old text shown result new
  acted_command action (Ok printed) a read does = done_command action printed a read does
  acted_command action (Err fault) a read does = undone_command action fault a read does
