-- The stored text of an automaton, and the lines of its steps.
use Rattle.std.specs.Prelude.{◌≡◌, ℕ, ◌<◌, Bool, List, length, Result, ⊤, MatchResult}
use Rattle.dfa_text.specs.RelationText.{relation_text}
use Rattle.digit_tuple.specs.Deterministic.{Automaton}
use Rattle.digit_tuple.specs.declared.header.Header.{Header}
use Rattle.digit_tuple.specs.declared.steps.StepLine.{StepLine}
use Rattle.command_parts.specs.declared.text_refusal.TextRefusal.TheVariants as text_refusals
use Rattle.command_parts.specs.declared.refusal.Refusal.TheVariants as refusals
use Rattle.command_parts.specs.declared.fault.Fault.{Fault}
use Rattle.command_parts.specs.declared.fault.Fault.TheVariants as faults
use Rattle.command_parts.specs.declared.file_change.Made.{Made}
use Rattle.command_parts.specs.Lines.{shown_steps}
use Rattle.command_parts.specs.Accepting.{FitsFile}

-- the text of an automaton and the lines of its steps, or why the text is not stored
pub record IsPrinted (header : Header) (automaton : Automaton) (shown : Bool) (lines : List StepLine) (stored printed : List ℕ) : Type 0 where
  pub text_is : stored ≡ relation_text header automaton
  pub printed_is : printed ≡ shown_steps shown lines
  pub fits : FitsFile stored

abbrev pub IsNotPrinted : Header → Automaton → Fault → Type 0
IsNotPrinted header automaton (faults.Refused refusal) = (refusal ≡ refusals.Text (text_refusals.Long 16777216)) × (16777216 < length (relation_text header automaton))
IsNotPrinted header automaton (faults.Store folder name) = ⊥
IsNotPrinted header automaton faults.Memory = ⊤

abbrev pub Prints : Header → Automaton → Bool → List StepLine → Result Made Fault → Type 0
Prints header automaton shown lines result = MatchResult result (λ made. IsPrinted header automaton shown lines made.stored.items made.printed) (IsNotPrinted header automaton)
