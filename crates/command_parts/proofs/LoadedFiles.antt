-- From files that were loaded to what a command gives of them.
use Rattle.std.proofs.Common.{List, refl, subst}
use Rattle.wal_outside.specs.Files.{Files}
use Rattle.wal_outside.specs.Views.{StoreView}
use Rattle.dfa_loading.specs.Loading.{FirstFails}
use Rattle.dfa_loading.specs.Places.{IsCausedBy}
use Rattle.dfa_loading.specs.declared.fault.LoadFault.{LoadFault}
use Rattle.dfa_loading.specs.declared.fault.LoadFault.TheVariants as loads
use Rattle.formula_resolve.specs.declared.file.File.{File}
use Rattle.definitions.specs.Texts.{Stores}
use Rattle.definitions.specs.Trees.{Ledger}
use Rattle.command_parts.specs.declared.fault.Fault.{Fault}
use Rattle.command_parts.specs.Checks.{Fails}
use Rattle.command_parts.specs.FileChecks.{files_loaded}
use Rattle.command_parts.specs.FormulaFaults.{fault_of_loading}
use Rattle.command_parts.specs.FormulaLoads.{AreUnloaded}
use Rattle.command_parts.specs.StoreReads.{IsReadFault}

pub caused_so : (f : LoadFault) (old new : StoreView) → IsCausedBy f old new → IsReadFault (fault_of_loading f) old new
caused_so (loads.Unknown folder name) old new is = is
caused_so (loads.File folder name flaw) old new is = is
caused_so (loads.Store folder name) old new is = is
caused_so loads.Memory old new is = is

-- why files are not loaded, as a fault
pub unloaded_so : (f : LoadFault) (files : Files) (named : List File) → FirstFails files named f → AreUnloaded files named (fault_of_loading f)
unloaded_so load files named is = (load, refl, is)

-- files that are not loaded refuse a command
pub unloaded : (ledger : Ledger) (files : Files) (named : List File) (fault : Fault) → Stores ledger files → AreUnloaded files named fault → Fails (files_loaded ledger named) fault
unloaded ledger files named fault stores (own, is, fails) = subst (Fails (files_loaded ledger named)) is (by own fails)
  where
    by : (load : LoadFault) → FirstFails files named load → Fails (files_loaded ledger named) (fault_of_loading load)
    by (loads.Unknown folder name) first = (loads.Unknown folder name, refl, (files, stores, first))
    by (loads.File folder name flaw) first = (loads.File folder name flaw, refl, (files, stores, first))
    by (loads.Store folder name) at = (files, stores, at)
    by loads.Memory out = tt
