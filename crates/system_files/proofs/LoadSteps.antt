-- Steps of loading, one after another.
use Rattle.std.proofs.Common.{◌≡◌, List, Option, None, Some, Result, Ok, Err, sym, subst}
use Rattle.std.specs.Prelude.{⊤}
use Rattle.std.specs.Option.{IfSome}
use Rattle.std.specs.Result.{IsErrAnd}
use Rattle.wal_outside.specs.Files.{Files}
use Rattle.wal_outside.specs.Views.{StoreView}
use Rattle.wal_outside.specs.declared.folder.Folder.TheVariants.{Bases}
use Rattle.dfa_loading.specs.declared.fault.LoadFault.{LoadFault}
use Rattle.dfa_loading.specs.declared.fault.LoadFault.TheVariants as faults
use Rattle.dfa_loading.specs.Places.{IsCausedBy}
use Rattle.dfa_loading.proofs.ReadSteps.{reads_both, reads_so, reads_ok}
use Rattle.system_files.specs.SystemFiles.{Custom}
use Rattle.system_files.specs.SystemTexts.{FoundText, Agrees, HasFound}
use Rattle.system_files.specs.Looks.{Loads}

both_agree : (reported later : Option Files) (before mid after : List FoundText) → later ≡ reported → IfSome reported (λ (files : Files). Agrees (files Bases) before → Agrees (files Bases) mid) → IfSome later (λ (files : Files). Agrees (files Bases) mid → Agrees (files Bases) after)
    → IfSome reported (λ (files : Files). Agrees (files Bases) before → Agrees (files Bases) after)
both_agree reported later before mid after same first next = by reported first (rw same at next)
  where
    by : (reported : Option Files) → IfSome reported (λ (files : Files). Agrees (files Bases) before → Agrees (files Bases) mid) → IfSome reported (λ (files : Files). Agrees (files Bases) mid → Agrees (files Bases) after)
        → IfSome reported (λ (files : Files). Agrees (files Bases) before → Agrees (files Bases) after)
    by None first next = tt
    by (Some files) first next = λ agrees. next (first agrees)

-- what was found by two steps
pub found_both : (before mid after : List FoundText) (old later : StoreView) → later.files ≡ old.files → HasFound before old mid → HasFound mid later after → HasFound before old after
found_both before mid after old later same first next = record {
  kept = λ custom agrees. first.kept custom (next.kept custom agrees);
  reported = both_agree old.files later.files before mid after same first.reported next.reported;
}

-- a fault of no call
abbrev pub IsQuiet : LoadFault → Type 0
IsQuiet (faults.Store folder name) = ⊥
IsQuiet (faults.Unknown folder name) = ⊤
IsQuiet (faults.File folder name flaw) = ⊤
IsQuiet faults.Memory = ⊤

quiet_caused : (fault : LoadFault) (old new : StoreView) → IsQuiet fault → new.failed ≡ old.failed → IsCausedBy fault old new
quiet_caused (faults.Store folder name) old new quiet same = absurd quiet
quiet_caused (faults.Unknown folder name) old new quiet same = same
quiet_caused (faults.File folder name flaw) old new quiet same = same
quiet_caused faults.Memory old new quiet same = same

module _ {X Y : Type 0} (P : Custom → List FoundText → X → Type 0) (F : Custom → LoadFault → Type 0) (Q : Custom → List FoundText → Y → Type 0) (G : Custom → LoadFault → Type 0) where
  -- the same step, answered so
  pub loads_so : (before after : List FoundText) (old new : StoreView) (x : X) (y : Y) → Loads P F before old (Ok x) after new → ((custom : Custom) → Agrees custom after → P custom after x → Q custom after y) → Loads Q G before old (Ok y) after new
  loads_so before after old new x y step holds = record {
    gives = λ custom agrees. holds custom agrees (step.gives custom agrees);
    found = step.found;
    has_read = reads_ok old new x y step.has_read;
  }

  -- the same fault
  pub fails_so : (before after : List FoundText) (old new : StoreView) (fault : LoadFault) → Loads P F before old (Err fault) after new → ((custom : Custom) → Agrees custom after → F custom fault → G custom fault) → Loads Q G before old (Err fault) after new
  fails_so before after old new fault step fails = record {
    gives = λ custom agrees. fails custom agrees (step.gives custom agrees);
    found = step.found;
    has_read = reads_so old new fault step.has_read;
  }

  -- what was read is refused
  pub refused_so : (before after : List FoundText) (old new : StoreView) (x : X) (fault : LoadFault) → IsQuiet fault → Loads P F before old (Ok x) after new → ((custom : Custom) → Agrees custom after → P custom after x → G custom fault) → Loads Q G before old (Err fault) after new
  refused_so before after old new x fault quiet step fails = record {
    gives = λ custom agrees. fails custom agrees (step.gives custom agrees);
    found = step.found;
    has_read = record { files = step.has_read.files; later = step.has_read.later; cause = quiet_caused fault old new quiet step.has_read.cause };
  }

module _ {X Y Z : Type 0} (P : Custom → List FoundText → X → Type 0) (F : Custom → LoadFault → Type 0) (Q : Custom → List FoundText → Y → Type 0) (G : Custom → LoadFault → Type 0) (R : Custom → List FoundText → Z → Type 0) (H : Custom → LoadFault → Type 0)
    (before mid after : List FoundText) (old later new : StoreView) (x : X) (first : Loads P F before old (Ok x) mid later) where
  -- a step after another
  pub loads_both : (y : Y) (z : Z) → Loads Q G mid later (Ok y) after new → ((custom : Custom) → Agrees custom mid → Agrees custom after → P custom mid x → Q custom after y → R custom after z) → Loads R H before old (Ok z) after new
  loads_both y z next holds = record {
    gives = λ custom agrees. let earlier = next.found.kept custom agrees in holds custom earlier agrees (first.gives custom earlier) (next.gives custom agrees);
    found = found_both before mid after old later first.has_read.files first.found next.found;
    has_read = reads_ok old new y z (reads_both old later new x (Ok y) first.has_read next.has_read);
  }

  -- and one that fails
  pub fails_both : (fault : LoadFault) → Loads Q G mid later (Err fault) after new → ((custom : Custom) → Agrees custom mid → P custom mid x → G custom fault → H custom fault) → Loads R H before old (Err fault) after new
  fails_both fault next fails = record {
    gives = λ custom agrees. let earlier = next.found.kept custom agrees in fails custom earlier (first.gives custom earlier) (next.gives custom agrees);
    found = found_both before mid after old later first.has_read.files first.found next.found;
    has_read = reads_so old new fault (reads_both {Y = Y} old later new x (Err fault) first.has_read next.has_read);
  }

-- a fault, handed on
pub handed_on : {X : Type 0} (P : Custom → List FoundText → X → Type 0) (F : Custom → LoadFault → Type 0) (before after : List FoundText) (old new : StoreView) (fault : LoadFault) (result : Result X LoadFault) → IsErrAnd result (λ e. e ≡ fault) → Loads P F before old (Err fault) after new → Loads P F before old result after new
handed_on P F before after old new fault (Ok x) same loads = absurd same
handed_on P F before after old new fault (Err e) same loads = subst (λ (f : LoadFault). Loads P F before old (Err f) after new) (sym same) loads
