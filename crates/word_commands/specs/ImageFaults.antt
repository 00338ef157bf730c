-- Why a word has no image, as the fault of a command.
use Rattle.word_commands.specs.declared.image_fault.ImageFault.{ImageFault}
use Rattle.word_commands.specs.declared.image_fault.ImageFault.TheVariants as images
use Rattle.command_parts.specs.declared.word_refusal.WordRefusal.TheVariants as word_refusals
use Rattle.command_parts.specs.declared.refusal.Refusal.TheVariants as refusals
use Rattle.command_parts.specs.declared.fault.Fault.{Fault}
use Rattle.command_parts.specs.declared.fault.Fault.TheVariants as faults
use Rattle.command_parts.specs.TrackSystems.{fault_of}

-- the fault of a word that has no image, as a command's
abbrev pub fault_of_imaging : ImageFault → Fault
fault_of_imaging (images.Morphism kind) = faults.Refused (refusals.Word (word_refusals.Morphism kind))
fault_of_imaging (images.Missing letter) = faults.Refused (refusals.Word (word_refusals.LetterMissing letter))
fault_of_imaging (images.Step fault) = fault_of fault
