-- The faults of the systems that a command mentions, as the command's.
use Rattle.dfa_loading.specs.declared.fault.LoadFault.TheVariants as loads
use Rattle.system_admission.specs.declared.system_fault.SystemFault.{SystemFault}
use Rattle.system_admission.specs.declared.system_fault.SystemFault.TheVariants as systems
use Rattle.command_parts.specs.declared.file_refusal.FileRefusal.TheVariants as file_refusals
use Rattle.command_parts.specs.declared.system_refusal.SystemRefusal.TheVariants as system_refusals
use Rattle.command_parts.specs.declared.refusal.Refusal.TheVariants as refusals
use Rattle.command_parts.specs.declared.fault.Fault.{Fault}
use Rattle.command_parts.specs.declared.fault.Fault.TheVariants as faults
use Rattle.command_parts.specs.TrackSystems.{fault_of}

abbrev pub fault_of_system : SystemFault → Fault
fault_of_system (systems.Load (loads.Unknown folder name)) = faults.Refused (refusals.System (system_refusals.SystemUnknown name))
fault_of_system (systems.Load (loads.File folder name flaw)) = faults.Refused (refusals.File (file_refusals.File folder name flaw))
fault_of_system (systems.Load (loads.Store folder name)) = faults.Store folder name
fault_of_system (systems.Load loads.Memory) = faults.Memory
fault_of_system (systems.NotAdmitted name law) = faults.Refused (refusals.System (system_refusals.NotAdmitted name law))
fault_of_system (systems.Step fault) = fault_of fault
