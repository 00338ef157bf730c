-- Tables that were not read: memory ran out, or a step passes a limit.
use Rattle.std.proofs.Common.{List, inl, inr}
use Rattle.dfa_loading.specs.declared.loaded.Loaded.{Loaded}
use Rattle.digit_tuple.specs.Steps.{StepLog}
use Rattle.digit_tuple.specs.declared.step_fault.StepFault.{StepFault}
use Rattle.named_systems.specs.NamedSystems.{NamedSystem, AreSealed}
use Rattle.system_files.specs.SystemFiles.{Custom}
use Rattle.command_parts.specs.FormulaSteps.{AreMeant, IsUnread}
use Rattle.command_parts.specs.TableReading.{IsReadingFault}

-- tables that were not read
pub stopped_here : (systems : List NamedSystem) (admitted : StepLog) (custom : Custom) (tables : List Loaded) (fault : StepFault) → AreSealed systems → AreMeant custom systems → IsReadingFault systems admitted tables fault → IsUnread admitted custom tables fault
stopped_here systems admitted custom tables fault sealed meant (inl memory) = inl memory
stopped_here systems admitted custom tables fault sealed meant (inr refused) = inr (record { systems = systems; sealed = sealed; meant = meant; refused = refused })
