-- What is given by the texts of users' systems that a command finds, from its parts, and by all files that it finds.
use Rattle.std.proofs.Common.{◌≡◌, ◌≤◌, List, [], Option, None, Some, IfSome, Result, Ok, Err, sym, ap, ◌∙◌, subst, arith}
use Rattle.std.specs.Prelude.{⊤}
use Rattle.std.specs.Option.{option_map}
use Rattle.wal_outside.specs.Files.{Files}
use Rattle.wal_outside.specs.Places.{Place}
use Rattle.wal_outside.specs.Views.{StoreView}
use Rattle.wal_outside.specs.declared.folder.Folder.TheVariants.{Automata, Words, Bases, Macros, Morphisms, Transducers, Results, Commands}
use Rattle.system_files.specs.SystemFiles.{Custom}
use Rattle.system_files.specs.SystemTexts.{FoundText, Agrees}
use Rattle.system_admission.proofs.UserSteps.{none_reported}
use Rattle.command_parts.specs.declared.fault.Fault.{Fault}
use Rattle.command_parts.specs.declared.fault.Fault.TheVariants as faults
use Rattle.command_parts.specs.StoreReads.{IsReadFault, HasRead, FromFiles, FromTexts}
use Rattle.command_parts.proofs.StoreReads.{IsOwn, rises, found_in, found_reported, read_none, read_on}

-- no text of a user's system
abbrev pub no_texts : Custom
no_texts = λ name. None

pub texts_none : {X : Type 0} (Gives : Custom → Result X Fault → Type 0) (store : StoreView) (r : Result X Fault) → IsOwn r → ((custom : Custom) → Gives custom r) → FromTexts Gives store r store
texts_none Gives store r own gives = record { found = []; in_some_folder = (no_texts, tt); reported = none_reported store.files; gives = λ custom all. gives custom; has_read = read_none store r own }

-- a part that reads refuses, and so does the whole
pub texts_refused : {X Y : Type 0} (First : Custom → Result X Fault → Type 0) (Gives : Custom → Result Y Fault → Type 0) (old new : StoreView) (f : Fault) → FromTexts First old (Err f) new → ((custom : Custom) → First custom (Err f) → Gives custom (Err f)) → FromTexts Gives old (Err f) new
texts_refused First Gives old new f first so = record { found = first.found; in_some_folder = first.in_some_folder; reported = first.reported; gives = λ custom all. so custom (first.gives custom all); has_read = record { files = first.has_read.files; later = first.has_read.later; cause = first.has_read.cause } }

-- a part that reads goes on to what reads nothing
pub texts_read : {X Y : Type 0} (First : Custom → Result X Fault → Type 0) (Gives : Custom → Result Y Fault → Type 0) (old new : StoreView) (x : X) (r : Result Y Fault) → IsOwn r → FromTexts First old (Ok x) new → ((custom : Custom) → First custom (Ok x) → Gives custom r) → FromTexts Gives old r new
texts_read First Gives old new x r own first so = record { found = first.found; in_some_folder = first.in_some_folder; reported = first.reported; gives = λ custom all. so custom (first.gives custom all); has_read = read_on old new x r own first.has_read }

-- what is given by a part is given by the whole
pub texts_part : {X : Type 0} (First : Custom → Result X Fault → Type 0) (Gives : Custom → Result X Fault → Type 0) (old new : StoreView) (r : Result X Fault) → FromTexts First old r new → ((custom : Custom) → First custom r → Gives custom r) → FromTexts Gives old r new
texts_part First Gives old new r first so = record { found = first.found; in_some_folder = first.in_some_folder; reported = first.reported; gives = λ custom all. so custom (first.gives custom all); has_read = first.has_read }

-- the files with these texts of users' systems
abbrev pub with_bases : Files → Custom → Files
with_bases files custom Automata = files Automata
with_bases files custom Words = files Words
with_bases files custom Bases = custom
with_bases files custom Macros = files Macros
with_bases files custom Morphisms = files Morphisms
with_bases files custom Transducers = files Transducers
with_bases files custom Results = files Results
with_bases files custom Commands = files Commands

-- files that are the store's where it reports them, in which these texts are, and of which the property is known
record AreChosen (P : Files → Type 0) (reported : Option Files) (texts : List FoundText) : Type 0 where
  found : Files
  reported_so : IfSome reported (λ (files : Files). found ≡ files)
  has : P found
  agrees : Agrees (found Bases) texts

chosen : (P : Files → Type 0) (reported : Option Files) (texts : List FoundText) (files : Files) (custom : Custom) → IfSome reported (λ (t : Files). files ≡ t) → P files → P (with_bases files custom) → Agrees custom texts → IfSome reported (λ (t : Files). Agrees (t Bases) texts)
    → AreChosen P reported texts
chosen P None texts files custom are here elsewhere in_some_folder there = record { found = with_bases files custom; reported_so = tt; has = elsewhere; agrees = in_some_folder }
chosen P (Some t) texts files custom are here elsewhere in_some_folder there = record { found = files; reported_so = are; has = here; agrees = subst (λ (f : Files). Agrees (f Bases) texts) (sym are) there }

-- a later fault comes only where the count of faults rose
fault_later : (f : Fault) (old mid new : StoreView) → old.faults ≤ mid.faults → mid.failed ≡ old.failed → IsReadFault f mid new → IsReadFault f old new
fault_later (faults.Store folder name) old mid new later same (rose, failed) = (rises old.faults mid.faults new.faults later rose, failed ∙ ap (λ (o : Option (Option Place)). option_map (λ _. Some (folder, name)) o) same)
fault_later faults.Memory old mid new later same is = is ∙ same
fault_later (faults.Refused refusal) old mid new later same is = is ∙ same

pub reads_both : {X Y : Type 0} (old mid new : StoreView) (x : X) (r : Result Y Fault) → HasRead old (Ok x) mid → HasRead mid r new → HasRead old r new
reads_both old mid new x (Ok y) first second = record { files = second.files ∙ first.files; later = omega (arith, first.later, second.later); cause = second.cause ∙ first.cause }
reads_both old mid new x (Err f) first second = record { files = second.files ∙ first.files; later = omega (arith, first.later, second.later); cause = fault_later f old mid new first.later first.cause second.cause }

-- what is given by the texts is given by all files that are found
pub files_of_texts : {X : Type 0} (First : Custom → Result X Fault → Type 0) (Gives : Files → Result X Fault → Type 0) (old new : StoreView) (r : Result X Fault) → FromTexts First old r new → ((found : Files) → First (found Bases) r → Gives found r) → FromFiles Gives old r new
files_of_texts First Gives old new r first so =
    let c = chosen (λ (f : Files). ⊤) old.files first.found (found_in old.files) first.in_some_folder.0 (found_reported old.files) tt tt first.in_some_folder.1 first.reported in
    record { found = c.found; reported = c.reported_so; gives = so c.found (first.gives (c.found Bases) c.agrees); has_read = first.has_read }

-- files that are found where texts of users' systems are found after them are found with those
pub then_texts : {X Y : Type 0} (First : Files → Result X Fault → Type 0) (Second : Custom → Result Y Fault → Type 0) (Gives : Files → Result Y Fault → Type 0) (old mid new : StoreView) (x : X) (r : Result Y Fault) → FromFiles First old (Ok x) mid → FromTexts Second mid r new
    → ((found : Files) (custom : Custom) → First found (Ok x) → First (with_bases found custom) (Ok x)) → ((found : Files) → First found (Ok x) → Second (found Bases) r → Gives found r) → FromFiles Gives old r new
then_texts First Second Gives old mid new x r first second elsewhere so =
    let there : IfSome old.files (λ (files : Files). Agrees (files Bases) second.found) = subst (λ (o : Option Files). IfSome o (λ (files : Files). Agrees (files Bases) second.found)) first.has_read.files second.reported in
    let c = chosen (λ (f : Files). First f (Ok x)) old.files second.found first.found second.in_some_folder.0 first.reported first.gives (elsewhere first.found second.in_some_folder.0 first.gives) second.in_some_folder.1 there in
    record { found = c.found; reported = c.reported_so; gives = so c.found c.has (second.gives (c.found Bases) c.agrees); has_read = reads_both old mid new x r first.has_read second.has_read }
