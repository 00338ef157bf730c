-- The files of a formula, loaded one after another.
use Rattle.std.specs.Prelude.{◌⊎◌, ℕ, List, [], ◌∷◌, Result, MatchResult, ⊤}
use Rattle.std.specs.List.{AllZip}
use Rattle.std.specs.declared.alloc.Global.{Global}
use Rattle.std.specs.declared.vec.Vec.{Vec}
use Rattle.wal_outside.specs.Files.{Files}
use Rattle.wal_outside.specs.Views.{StoreView}
use Rattle.wal_outside.specs.declared.folder.Folder.{Folder}
use Rattle.formula_resolve.specs.declared.file.File.{File}
use Rattle.dfa_loading.specs.declared.fault.LoadFault.{LoadFault}
use Rattle.dfa_loading.specs.declared.fault.LoadFault.TheVariants as faults
use Rattle.dfa_loading.specs.declared.loaded.Loaded.{Loaded}
use Rattle.dfa_loading.specs.Places.{IsListedBy, IsReadAt, Refuses, HasRead, AreReported}

-- each file lists what is beside it
abbrev pub AreListedBy : Files → List File → List Loaded → Type 0
AreListedBy files named tables = AllZip (IsListedBy files) named tables

-- the first of the files that is not loaded is refused so
abbrev pub FirstRefuses : Files → List File → LoadFault → Type 0
FirstRefuses files [] fault = ⊥
FirstRefuses files (file ∷ named) fault = Refuses files file fault ⊎ ((table : Loaded) × IsListedBy files file table × FirstRefuses files named fault)

-- one of the files is read at this place, and those before it are loaded
abbrev pub ReadsAt : Files → List File → Folder → List ℕ → Type 0
ReadsAt files [] folder name = ⊥
ReadsAt files (file ∷ named) folder name = IsReadAt file folder name ⊎ ((table : Loaded) × IsListedBy files file table × ReadsAt files named folder name)

-- why the files are not loaded
abbrev pub FirstFails : Files → List File → LoadFault → Type 0
FirstFails files named (faults.Store folder name) = ReadsAt files named folder name
FirstFails files named faults.Memory = ⊤
FirstFails files named (faults.Unknown folder name) = FirstRefuses files named (faults.Unknown folder name)
FirstFails files named (faults.File folder name flaw) = FirstRefuses files named (faults.File folder name flaw)

-- All files were loaded, or the first that was not says why; by some files, which are the store's where it reports them.
pub record IsLoaded (named : List File) (old : StoreView) (result : Result (Vec Loaded Global) LoadFault) (new : StoreView) : Type 0 where
  pub found : Files
  pub reported : AreReported old found
  pub gives : MatchResult result (λ tables. AreListedBy found named tables.items) (FirstFails found named)
  pub has_read : HasRead old result new
