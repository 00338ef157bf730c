-- Why a question about listed words has no answer, as a command's fault.
use Rattle.digit_tuple.specs.declared.step_fault.StepFault.TheVariants as steps
use Rattle.listings.specs.declared.line_fault.LineFault.{LineFault}
use Rattle.listings.specs.declared.line_fault.LineFault.TheVariants as lines
use Rattle.command_parts.specs.declared.shape_refusal.ShapeRefusal.TheVariants as shape_refusals
use Rattle.command_parts.specs.declared.word_refusal.WordRefusal.TheVariants as word_refusals
use Rattle.command_parts.specs.declared.refusal.Refusal.TheVariants as refusals
use Rattle.command_parts.specs.declared.fault.Fault.{Fault}
use Rattle.command_parts.specs.declared.fault.Fault.TheVariants as faults
use Rattle.listing_commands.specs.declared.listing_fault.ListingFault.{ListingFault}
use Rattle.listing_commands.specs.declared.listing_fault.ListingFault.TheVariants.{Place, Step, Long}
use Rattle.command_parts.specs.TrackSystems.{fault_of}

-- why there are no lines
abbrev pub of_lines : LineFault → ListingFault
of_lines lines.Long = Long
of_lines lines.Memory = Step steps.Memory

-- why there is no answer
abbrev pub fault_of_listing : ListingFault → Fault
fault_of_listing (Place name) = faults.Refused (refusals.Shape (shape_refusals.Place name))
fault_of_listing (Step fault) = fault_of fault
fault_of_listing Long = faults.Refused (refusals.Word word_refusals.TestLong)
