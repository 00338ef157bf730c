-- What the head of a command answers.
use Rattle.std.specs.Prelude.{ℕ, List, Result, Ok, Err, ◌≡◌}
use Rattle.command_head.specs.Parts.{parts_of, texts_of}
use Rattle.command_head.specs.Breaks.{HasHead}
use Rattle.command_head.specs.declared.fault.HeadFault.{HeadFault}
use Rattle.command_head.specs.declared.fault.HeadFault.TheVariants as heads
use Rattle.command_parts.specs.declared.text_refusal.Grammar.TheVariants as grammars
use Rattle.command_parts.specs.declared.text_refusal.TextRefusal.TheVariants as text_refusals
use Rattle.command_parts.specs.declared.refusal.Refusal.{Refusal}
use Rattle.command_parts.specs.declared.refusal.Refusal.TheVariants as refusals
use Rattle.command_parts.specs.declared.fault.Fault.{Fault}
use Rattle.command_parts.specs.declared.fault.Fault.TheVariants as faults

-- the fault of a head, as a command's
abbrev pub fault_of_head : HeadFault → Fault
fault_of_head (heads.Syntax at) = faults.Refused (refusals.Text (text_refusals.Syntax grammars.Command at))
fault_of_head (heads.Number at) = faults.Refused (refusals.Text (text_refusals.Number grammars.Command at))
fault_of_head heads.Memory = faults.Memory

-- the head that the parts of the text derive by a grammar, or where they first break it
abbrev pub HeadAnswers : {H : Type 0} → (List (List ℕ) → H → Type 0) → List ℕ → Result H Refusal → Type 0
HeadAnswers grammar text (Ok head) = grammar (texts_of (parts_of text)) head
HeadAnswers grammar text (Err refusal) = (fault : HeadFault) × (fault_of_head fault ≡ faults.Refused refusal) × HasHead grammar (λ head. head) text (Err fault)
