-- What is given by the files that a command finds, from its parts.
use Rattle.std.proofs.Common.{◌≡◌, ℕ, ◌≤◌, Bool, false, Option, None, Some, IfSome, Result, Ok, Err, refl, arith}
use Rattle.std.specs.Prelude.{⊤}
use Rattle.wal_outside.specs.Causes.{Rose}
use Rattle.wal_outside.specs.Files.{Files}
use Rattle.wal_outside.specs.Places.{Place}
use Rattle.wal_outside.specs.Views.{StoreView}
use Rattle.command_parts.specs.declared.fault.Fault.{Fault}
use Rattle.command_parts.specs.declared.fault.Fault.TheVariants as faults
use Rattle.formula_parse.specs.declared.fault.ParseFault.{ParseFault}
use Rattle.formula_parse.specs.declared.fault.ParseFault.TheVariants as parses
use Rattle.command_parts.specs.FormulaFaults.{fault_of_formula}
use Rattle.command_parts.specs.declared.file_change.Made.{Made}
use Rattle.command_parts.specs.declared.file_change.FileChange.{FileChange}
use Rattle.command_parts.specs.Checks.{Check, Fails}
use Rattle.command_parts.specs.Accepting.{Success}
use Rattle.command_parts.specs.FileChanges.{Makes, ChangesFile}
use Rattle.command_parts.proofs.StoreFaults.{is_store_fault}
use Rattle.command_parts.specs.StoreReads.{IsReadFault, HasRead, FromFiles}
use Rattle.system_files.specs.SystemFiles.{Custom}

-- files that are the store's where it reports them
pub found_in : Option Files → Files
found_in None = λ folder name. None
found_in (Some files) = files

pub found_reported : (reported : Option Files) → IfSome reported (λ files. found_in reported ≡ files)
unfolding found_in
found_reported None = tt
found_reported (Some files) = refl

-- a fault that is not the store's leaves which call failed last
kept : (store : StoreView) (f : Fault) → is_store_fault f ≡ false → IsReadFault f store store
kept store (faults.Store folder name) other = cc
kept store faults.Memory other = refl
kept store (faults.Refused refusal) other = refl

-- a later fault that is not the store's keeps what was read before
moved : (old new : StoreView) (f : Fault) → is_store_fault f ≡ false → new.failed ≡ old.failed → IsReadFault f old new
moved old new (faults.Store folder name) other is = cc
moved old new faults.Memory other is = is
moved old new (faults.Refused refusal) other is = is

-- what is no store fault
abbrev pub IsOwn : {X : Type 0} → Result X Fault → Type 0
IsOwn (Ok x) = ⊤
IsOwn (Err fault) = is_store_fault fault ≡ false

-- the count of faults rises over two parts
pub rises : (before between after : ℕ) → before ≤ between → Rose between after → Rose before after
rises before between after later rose = omega (arith, later, rose)

-- nothing is read
pub read_none : {X : Type 0} (store : StoreView) (r : Result X Fault) → IsOwn r → HasRead store r store
read_none store (Ok x) own = record { files = refl; later = omega arith; cause = refl }
read_none store (Err f) own = record { files = refl; later = omega arith; cause = kept store f own }

-- nothing more is read
pub read_on : {X Y : Type 0} (old new : StoreView) (x : X) (r : Result Y Fault) → IsOwn r → HasRead old (Ok x) new → HasRead old r new
read_on old new x (Ok y) own first = record { files = first.files; later = first.later; cause = first.cause }
read_on old new x (Err f) own first = record { files = first.files; later = first.later; cause = moved old new f own first.cause }

-- what is given whatever files are found, where nothing is read
pub from_none : {X : Type 0} (Gives : Files → Result X Fault → Type 0) (store : StoreView) (r : Result X Fault) → IsOwn r → ((found : Files) → Gives found r) → FromFiles Gives store r store
from_none Gives store r own gives = record { found = found_in store.files; reported = found_reported store.files; gives = gives (found_in store.files); has_read = read_none store r own }

-- a part that reads refuses, and so does the whole
pub from_refused : {X Y : Type 0} (First : Files → Result X Fault → Type 0) (Gives : Files → Result Y Fault → Type 0) (old new : StoreView) (f : Fault) → FromFiles First old (Err f) new → ((found : Files) → First found (Err f) → Gives found (Err f)) → FromFiles Gives old (Err f) new
from_refused First Gives old new f first so = record { found = first.found; reported = first.reported; gives = so first.found first.gives; has_read = record { files = first.has_read.files; later = first.has_read.later; cause = first.has_read.cause } }

-- a part that reads goes on to what reads nothing
pub from_read : {X Y : Type 0} (First : Files → Result X Fault → Type 0) (Gives : Files → Result Y Fault → Type 0) (old new : StoreView) (x : X) (r : Result Y Fault) → IsOwn r → FromFiles First old (Ok x) new → ((found : Files) → First found (Ok x) → Gives found r) → FromFiles Gives old r new
from_read First Gives old new x r own first so = record { found = first.found; reported = first.reported; gives = so first.found first.gives; has_read = read_on old new x r own first.has_read }

-- what is given by a part is given by the whole
pub from_part : {X : Type 0} (First : Files → Result X Fault → Type 0) (Gives : Files → Result X Fault → Type 0) (old new : StoreView) (r : Result X Fault) → FromFiles First old r new → ((found : Files) → First found r → Gives found r) → FromFiles Gives old r new
from_part First Gives old new r first so = record { found = first.found; reported = first.reported; gives = so first.found first.gives; has_read = first.has_read }

-- checks that read nothing are not refused by the store
pub own_fault : {Y : Type 0} (check : Check Y) → ((place : Place) → check.reads place → ⊥) → (f : Fault) → Fails check f → is_store_fault f ≡ false
own_fault check none (faults.Store folder name) refused = absurd (none (folder, name) refused)
own_fault check none faults.Memory refused = refl
own_fault check none (faults.Refused refusal) refused = refl

pub own_made : (custom : Custom) (checks : Check Success) → ((place : Place) → checks.reads place → ⊥) → (shown : Bool) (r : Result Made Fault) → Makes custom checks shown r → IsOwn r
own_made custom checks none shown (Ok made) makes = tt
own_made custom checks none shown (Err f) refused = own_fault checks none f refused

pub own_change : (custom : Custom) (checks : Check Success) → ((place : Place) → checks.reads place → ⊥) → (shown : Bool) (r : Result FileChange Fault) → ChangesFile custom checks shown r → IsOwn r
own_change custom checks none shown (Ok change) changes = tt
own_change custom checks none shown (Err f) refused = own_fault checks none f refused

-- a fault of a formula's text is none of the store
pub own_parse : (fault : ParseFault) → is_store_fault (fault_of_formula fault) ≡ false
own_parse (parses.Syntax at) = refl
own_parse (parses.Number at) = refl
own_parse (parses.Depth at) = refl
own_parse (parses.MixedChain at) = refl
own_parse (parses.NotLinear at) = refl
own_parse parses.Memory = refl
