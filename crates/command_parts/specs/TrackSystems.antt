-- The systems of tracks that a command names, and why there are none.
use Rattle.std.specs.Prelude.{List, map}
use Rattle.digit_tuple.specs.declared.step_fault.StepFault.{StepFault}
use Rattle.digit_tuple.specs.declared.step_fault.StepFault.TheVariants as steps
use Rattle.named_systems.specs.TrackSystems.{system_of}
use Rattle.named_systems.specs.declared.track_system.TrackSystem.{TrackSystem}
use Rattle.named_systems.specs.declared.track_systems.TracksFault.{TracksFault}
use Rattle.named_systems.specs.declared.track_systems.TracksFault.TheVariants as tracks
use Rattle.definitions.specs.Tracks.{NamedSystem}
use Rattle.command_parts.specs.declared.system_refusal.SystemRefusal.TheVariants as system_refusals
use Rattle.command_parts.specs.declared.step_refusal.StepRefusal.TheVariants as step_refusals
use Rattle.command_parts.specs.declared.refusal.Refusal.TheVariants as refusals
use Rattle.command_parts.specs.declared.fault.Fault.{Fault}
use Rattle.command_parts.specs.declared.fault.Fault.TheVariants as faults

-- the fault of a step, as a command's
abbrev pub fault_of : StepFault → Fault
fault_of (steps.Letters step) = faults.Refused (refusals.Step (step_refusals.Letters step))
fault_of (steps.States step) = faults.Refused (refusals.Step (step_refusals.States step))
fault_of steps.Memory = faults.Memory

-- why names mean no tracks, as a command's fault
abbrev pub fault_of_tracks : TracksFault → Fault
fault_of_tracks (tracks.Direction first other) = faults.Refused (refusals.System (system_refusals.Direction first other))
fault_of_tracks tracks.Memory = faults.Memory

-- a system under its name
abbrev pub named_of : TrackSystem → NamedSystem
named_of s = record { name = s.name; system = system_of s }

abbrev pub named_in : List TrackSystem → List NamedSystem
named_in systems = map named_of systems
