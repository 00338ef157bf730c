-- The cause of a refusal.
use Rattle.std.proofs.Common.{ℕ, List, IsTrue, Ok, Err, refl, sym, subst, inl, inr}
use Rattle.wal_outside.specs.Causes.{Rose}
use Rattle.wal_outside.specs.Views.{StoreView}
use Rattle.definitions.specs.Trees.{Ledger}
use Rattle.command_parts.specs.declared.fault.Fault.{Fault}
use Rattle.command_parts.specs.declared.fault.Fault.TheVariants as faults
use Rattle.command_parts.specs.Accepting.{Answer}
use Rattle.session_cli.specs.Commands.{Gives, Leaves, is_refused_by_store}
use Rattle.session_cli.specs.Outcomes.{checks_of}
use Rattle.session_cli.specs.SessionLanguage.{IsAnswer}
use Rattle.headlines.specs.Refusals.{IsCause, IsRefusal, Refusals}

module _ (limit : ℕ) (known : Ledger) (command : List ℕ) (old new : StoreView) where
  cause : (fault : Fault) → IsAnswer (checks_of limit known command) (Err fault) → (IsTrue (is_refused_by_store (Err fault)) → Rose old.faults new.faults) → IsCause limit known command old new fault
  cause (faults.Refused refusal) answered rose = inl (refusal, refl, answered)
  cause (faults.Store folder name) answered rose = inr (inl (folder, name, refl, rose refl))
  cause faults.Memory answered rose = inr (inr refl)

pub refusals : Refusals
refusals limit ledger old new command shown fault c = by c.answer c.gives c.answered c.stored
  where
    by : (answer : Answer) → Gives shown (Err fault) answer → IsAnswer (checks_of limit c.known command) answer → Leaves c.known old answer new → IsRefusal limit ledger old new command fault
    by (Ok success) gives answered leaves = absurd gives
    by (Err other) same answered leaves = record {
      kept = leaves.files;
      known = c.known;
      known_is = c.known_is;
      cause = subst (IsCause limit c.known command old new) (sym same) (cause limit c.known command old new other answered leaves.cause);
    }
