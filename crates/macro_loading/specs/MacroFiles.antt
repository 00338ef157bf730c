-- The expansion of a text by the macros that are among files.
use Rattle.std.specs.Prelude.{◌≡◌, ◌≢◌, ℕ, ◌<◌, nat_le, Bool, true, false, if◌then◌else◌, List, length, Option, None, Some, Vec, Result, Ok, Err, MatchResult, ⊤}
use Rattle.std.specs.Str.{bytes_eq}
use Rattle.std.specs.declared.alloc.Global.{Global}
use Rattle.wal_outside.specs.Causes.{CountsFault}
use Rattle.wal_outside.specs.Files.{Files}
use Rattle.wal_outside.specs.Views.{StoreView}
use Rattle.wal_outside.specs.declared.folder.Folder.{Folder}
use Rattle.wal_outside.specs.declared.folder.Folder.TheVariants.{Macros}
use Rattle.wal_outside.specs.declared.store.TheConstants.{TEXT_LIMIT}
use Rattle.macro_expand.specs.Texts.{TextOf}
use Rattle.macro_expand.specs.Expansion.{expansion}
use Rattle.macro_expand.specs.declared.fault.MacroFault.TheVariants as macros
use Rattle.dfa_loading.specs.Places.{AreReported, IsCausedBy as IsLoadCausedBy}
use Rattle.dfa_loading.specs.declared.fault.FileFlaw.TheVariants.{TooLong}
use Rattle.dfa_loading.specs.declared.fault.LoadFault.{LoadFault}
use Rattle.dfa_loading.specs.declared.fault.LoadFault.TheVariants as loads
use Rattle.macro_loading.specs.declared.fault.ExpansionFault.{ExpansionFault}
use Rattle.macro_loading.specs.declared.fault.ExpansionFault.TheVariants as faults

-- a text that may be there, unless it is too long to be read
abbrev pub short_text : Option (List ℕ) → Option (List ℕ)
short_text None = None
short_text (Some text) = if nat_le (length text) TEXT_LIMIT then Some text else None

-- the macros of some files: the texts in the folder of macros, by their names
abbrev pub macros_of : Files → TextOf
macros_of files = λ name. short_text (files Macros name)

-- all but the macro of this name
abbrev pub without : List ℕ → TextOf → TextOf
without name macros = λ other. if bytes_eq other name then None else macros other

-- a macro is met where the expansion by all the others lacks just this one
abbrev pub IsMet : Files → List ℕ → List ℕ → Type 0
IsMet files text name = expansion (without name (macros_of files)) text ≡ Err (macros.Unknown name)

-- a macro's file is read under this name in this folder
abbrev pub ReadsMacroAt : Files → List ℕ → Folder → List ℕ → Type 0
ReadsMacroAt files text folder name = (folder ≡ Macros) × IsMet files text name

-- a text is there that is too long to be read
abbrev pub IsTooLong : Option (List ℕ) → Type 0
IsTooLong there = (text : List ℕ) × (there ≡ Some text) × (TEXT_LIMIT < length text)

-- why the text of a macro is not loaded: a macro is unknown, and nothing is under its name, or a text that is too long; or the store failed
-- at a macro that is met; or because memory ran out
abbrev pub FailsLoad : Files → List ℕ → LoadFault → Type 0
FailsLoad files text (loads.Unknown folder name) = (folder ≡ Macros) × (expansion (macros_of files) text ≡ Err (macros.Unknown name)) × (files Macros name ≡ None)
FailsLoad files text (loads.File folder name flaw) = (folder ≡ Macros) × (flaw ≡ TooLong) × (expansion (macros_of files) text ≡ Err (macros.Unknown name)) × IsTooLong (files Macros name)
FailsLoad files text (loads.Store folder name) = ReadsMacroAt files text folder name
FailsLoad files text loads.Memory = ⊤

-- why a text is not expanded by the macros of some files
abbrev pub Fails : Files → List ℕ → ExpansionFault → Type 0
Fails files text (faults.Syntax at) = expansion (macros_of files) text ≡ Err (macros.Syntax at)
Fails files text (faults.MacroArgs name n given) = expansion (macros_of files) text ≡ Err (macros.MacroArgs name n given)
Fails files text (faults.MacroDepth name) = expansion (macros_of files) text ≡ Err (macros.MacroDepth name)
Fails files text faults.MacroLong = expansion (macros_of files) text ≡ Err macros.MacroLong
Fails files text (faults.Load fault) = FailsLoad files text fault

-- what a call answered, seen by view, is the expansion of the text by the macros of some files
abbrev pub Expands : {X : Type 0} → (X → List ℕ) → Files → List ℕ → Result X ExpansionFault → Type 0
Expands view files text (Ok made) = expansion (macros_of files) text ≡ Ok (view made)
Expands view files text (Err fault) = Fails files text fault

-- whether a call of the store failed
abbrev pub is_store_fault : {X : Type 0} → Result X ExpansionFault → Bool
is_store_fault (Err (faults.Load (loads.Store folder name))) = true
is_store_fault (Err (faults.Load (loads.Unknown folder name))) = false
is_store_fault (Err (faults.Load (loads.File folder name flaw))) = false
is_store_fault (Err (faults.Load loads.Memory)) = false
is_store_fault (Err (faults.Syntax at)) = false
is_store_fault (Err (faults.MacroArgs name n given)) = false
is_store_fault (Err (faults.MacroDepth name)) = false
is_store_fault (Err faults.MacroLong) = false
is_store_fault (Ok made) = false

-- the last call that failed is the one at the place of the fault; or no call failed
abbrev pub IsCausedBy : ExpansionFault → StoreView → StoreView → Type 0
IsCausedBy (faults.Load fault) old new = IsLoadCausedBy fault old new
IsCausedBy (faults.Syntax at) old new = new.failed ≡ old.failed
IsCausedBy (faults.MacroArgs name n given) old new = new.failed ≡ old.failed
IsCausedBy (faults.MacroDepth name) old new = new.failed ≡ old.failed
IsCausedBy faults.MacroLong old new = new.failed ≡ old.failed

-- reading changes no text, and the count of faults rises where the answer is that the store failed, and else it stays
pub record HasRead {X : Type 0} (old : StoreView) (result : Result X ExpansionFault) (new : StoreView) : Type 0 where
  pub files : new.files ≡ old.files
  pub faults : CountsFault (is_store_fault result) old.faults new.faults
  pub cause : MatchResult result (λ _. new.failed ≡ old.failed) (λ fault. IsCausedBy fault old new)

-- the text was expanded, or not, by some files, which are the store's where it reports them
pub record IsExpanded (text : List ℕ) (old : StoreView) (result : Result (Vec ℕ Global) ExpansionFault) (new : StoreView) : Type 0 where
  pub found : Files
  pub reported : AreReported old found
  pub gives : Expands (λ made. made.items) found text result
  pub has_read : HasRead old result new

-- neither memory ran out nor the store failed
abbrev pub IsAnswer : Result (List ℕ) ExpansionFault → Type 0
IsAnswer result = (result ≢ Err (faults.Load loads.Memory)) × (is_store_fault result ≡ false)

-- the expansion of a text by the same files has one answer
abbrev pub ExpansionsByFilesHaveOneAnswer : Type 0
ExpansionsByFilesHaveOneAnswer = (files : Files) (text : List ℕ) (result other : Result (List ℕ) ExpansionFault) → Expands (λ made. made) files text result → Expands (λ made. made) files text other
    → IsAnswer result → IsAnswer other → result ≡ other
