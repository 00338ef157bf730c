-- Macros that are read as their names are met. Nobody has to believe this: it serves the expansion by them.
use Rattle.std.specs.Prelude.{◌≡◌, ℕ, ◌≤◌, true, List, length, Option, None, Some, IfSome, ⊤}
use Rattle.std.proofs.Common.{ap, subst, ◌∙◌}
use Rattle.wal_outside.specs.Causes.{CountsFault}
use Rattle.wal_outside.specs.Places.{FailedAt}
use Rattle.wal_outside.specs.Views.{StoreView}
use Rattle.wal_outside.specs.declared.folder.Folder.TheVariants.{Macros}
use Rattle.wal_outside.specs.declared.store.TheConstants.{TEXT_LIMIT}
use Rattle.macro_expand.specs.Texts.{Texts, TextOf, text_in}
use Rattle.macro_expand.specs.Sources.{AreAmong}
use Rattle.macro_expand.specs.declared.fault.MacroFault.{MacroFault}
use Rattle.macro_expand.specs.declared.fault.MacroFault.TheVariants as macros
use Rattle.dfa_loading.specs.declared.fault.FileFlaw.TheVariants as flaws
use Rattle.dfa_loading.specs.declared.fault.LoadFault.{LoadFault}
use Rattle.dfa_loading.specs.declared.fault.LoadFault.TheVariants as loads
use Rattle.macro_loading.specs.MacroFiles.{macros_of, IsTooLong}
use Rattle.macro_loading.specs.declared.fault.ExpansionFault.{ExpansionFault}
use Rattle.macro_loading.specs.declared.fault.ExpansionFault.TheVariants as faults
use Rattle.macro_loading.specs.declared.macro_files.Want.{Want}
use Rattle.macro_loading.specs.declared.macro_files.Want.TheVariants.{Absent, TooLong, Failed}

-- the store, the texts that were read, and why the last one was not found, if it was not
pub record Held : Type 0 where
  pub store : StoreView
  pub texts : Texts
  pub want : Option Want

-- these texts are short enough, and the macros of the store, where it reports its files
pub record AreRead (store : StoreView) (texts : TextOf) : Type 0 where
  pub short : (name text : List ℕ) → texts name ≡ Some text → length text ≤ TEXT_LIMIT
  pub reported : IfSome store.files (λ files. AreAmong (macros_of files) texts)

-- each one was found so far
pub record IsReady (held : Held) : Type 0 where
  pub read : AreRead held.store (text_in held.texts)
  pub all_found : held.want ≡ None

-- each one is found, and no call of the store fails
abbrev pub GoesOn : Held → Held → Type 0
GoesOn old new = IsReady old → IsReady new × (new.store ≡ old.store)

-- a read found no text under the name for this reason
abbrev pub IsWanting : List ℕ → Want → StoreView → StoreView → Type 0
IsWanting name Absent old new = (new ≡ old) × IfSome old.files (λ files. files Macros name ≡ None)
IsWanting name TooLong old new = (new ≡ old) × IfSome old.files (λ files. IsTooLong (files Macros name))
IsWanting name Failed old new = (new.files ≡ old.files) × CountsFault true old.faults new.faults × FailedAt true (Macros, name) old.failed new.failed

-- this one is not found
pub record HasStopped (old : StoreView) (name : List ℕ) (new : Held) : Type 0 where
  pub read : AreRead new.store (text_in new.texts)
  pub lacks : text_in new.texts name ≡ None
  pub want : Want
  pub want_is : new.want ≡ Some want
  pub wanting : IsWanting name want old new.store

-- and no call of the store fails before that one is read
abbrev pub Stops : Held → List ℕ → Held → Type 0
Stops old name new = IsReady old → HasStopped old.store name new

-- once one was not found, nothing is read
abbrev pub IsStill : Held → Held → Type 0
IsStill old new = (want : Want) → old.want ≡ Some want → new ≡ old

-- and none later
pub still_then : {old mid new : Held} → IsStill old mid → IsStill mid new → IsStill old new
still_then first second = λ want e. let begun = first want e in second want (ap (λ (held : Held). held.want) begun ∙ e) ∙ begun

-- it goes on to find texts
pub goes_on_then : {old mid new : Held} → GoesOn old mid → GoesOn mid new → GoesOn old new
goes_on_then first second = λ ready. let begun = first ready in let done = second begun.0 in (done.0, done.1 ∙ begun.1)

-- and stops afterwards
pub stops_then : {old mid new : Held} {name : List ℕ} → GoesOn old mid → Stops mid name new → Stops old name new
stops_then {new = new} {name = name} first second = λ ready. let begun = first ready in subst (λ (store : StoreView). HasStopped store name new) begun.1 (second begun.0)

-- a name that is unknown is one that was not found
abbrev pub HasWant : MacroFault → Option Want → Type 0
HasWant (macros.Unknown name) want = (reason : Want) × (want ≡ Some reason)
HasWant macros.Memory want = ⊤
HasWant (macros.Syntax at) want = ⊤
HasWant (macros.MacroArgs name n given) want = ⊤
HasWant (macros.MacroDepth name) want = ⊤
HasWant macros.MacroLong want = ⊤

-- why the macro of this name is not loaded
abbrev pub wanting : List ℕ → Want → LoadFault
wanting name Absent = loads.Unknown Macros name
wanting name TooLong = loads.File Macros name flaws.TooLong
wanting name Failed = loads.Store Macros name

-- and so where that may be: there is a reason for each name that is unknown
abbrev pub wanting_some : List ℕ → Option Want → LoadFault
wanting_some name None = loads.Memory
wanting_some name (Some want) = wanting name want

-- what an expansion's fault is
abbrev pub fault_of : MacroFault → Option Want → ExpansionFault
fault_of (macros.Unknown name) want = faults.Load (wanting_some name want)
fault_of macros.Memory want = faults.Load loads.Memory
fault_of (macros.Syntax at) want = faults.Syntax at
fault_of (macros.MacroArgs name n given) want = faults.MacroArgs name n given
fault_of (macros.MacroDepth name) want = faults.MacroDepth name
fault_of macros.MacroLong want = faults.MacroLong
