-- Reads of a store, one after another.
use Rattle.std.proofs.Common.{◌≡◌, ℕ, ◌≤◌, Option, Some, Result, Ok, Err, refl, ◌∙◌, ap, arith}
use Rattle.std.specs.Option.{option_map}
use Rattle.std.specs.Result.{MatchResult}
use Rattle.wal_outside.specs.Causes.{Rose}
use Rattle.wal_outside.specs.Places.{Place}
use Rattle.wal_outside.specs.Views.{StoreView}
use Rattle.dfa_loading.specs.declared.fault.LoadFault.{LoadFault}
use Rattle.dfa_loading.specs.declared.fault.LoadFault.TheVariants as faults
use Rattle.dfa_loading.specs.Places.{IsCausedBy, HasRead}

-- nothing is read
pub nothing_read : {X : Type 0} (store : StoreView) (x : X) → HasRead store (Ok x) store
nothing_read store x = record { files = refl; later = omega arith; cause = refl }

-- nothing is read, and that is refused
pub nothing_refused : {X : Type 0} (store : StoreView) (fault : LoadFault) → IsCausedBy fault store store → HasRead {X = X} store (Err fault) store
nothing_refused store fault cause = record { files = refl; later = omega arith; cause = cause }

-- a read in which no call failed
pub quiet_read : {X : Type 0} (old new : StoreView) (result : Result X LoadFault) → new.files ≡ old.files → new.faults ≡ old.faults → MatchResult result (λ _. new.failed ≡ old.failed) (λ fault. IsCausedBy fault old new) → HasRead old result new
quiet_read old new result files faults cause = record { files = files; later = omega (arith, faults); cause = cause }

rose_later : (before mid now : ℕ) → before ≤ mid → Rose mid now → Rose before now
rose_later before mid now later rose = omega (arith, later, rose)

caused_later : (fault : LoadFault) (old mid new : StoreView) → old.faults ≤ mid.faults → mid.failed ≡ old.failed → IsCausedBy fault mid new → IsCausedBy fault old new
caused_later (faults.Store folder name) old mid new later same cause =
    (rose_later old.faults mid.faults new.faults later cause.0, cause.1 ∙ ap (λ (o : Option (Option Place)). option_map (λ _. Some (folder, name)) o) same)
caused_later (faults.Unknown folder name) old mid new later same cause = cause ∙ same
caused_later (faults.File folder name flaw) old mid new later same cause = cause ∙ same
caused_later faults.Memory old mid new later same cause = cause ∙ same

cause_later : {Y : Type 0} (result : Result Y LoadFault) (old mid new : StoreView) → old.faults ≤ mid.faults → mid.failed ≡ old.failed
    → MatchResult result (λ _. new.failed ≡ mid.failed) (λ fault. IsCausedBy fault mid new) → MatchResult result (λ _. new.failed ≡ old.failed) (λ fault. IsCausedBy fault old new)
cause_later (Ok y) old mid new later same cause = cause ∙ same
cause_later (Err fault) old mid new later same cause = caused_later fault old mid new later same cause

-- a read after another
pub reads_both : {X Y : Type 0} (old mid new : StoreView) (x : X) (result : Result Y LoadFault) → HasRead old (Ok x) mid → HasRead mid result new → HasRead old result new
reads_both old mid new x result first next = record {
  files = next.files ∙ first.files;
  later = omega (arith, first.later, next.later);
  cause = cause_later result old mid new first.later first.cause next.cause;
}

-- the same read, answered at another type
pub reads_so : {X Y : Type 0} (old new : StoreView) (fault : LoadFault) → HasRead {X = X} old (Err fault) new → HasRead {X = Y} old (Err fault) new
reads_so old new fault read = record { files = read.files; later = read.later; cause = read.cause }

pub reads_ok : {X Y : Type 0} (old new : StoreView) (x : X) (y : Y) → HasRead old (Ok x) new → HasRead old (Ok y) new
reads_ok old new x y read = record { files = read.files; later = read.later; cause = read.cause }
