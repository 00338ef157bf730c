-- Why a question about listed words has no answer, from the fault of each part.
use Rattle.std.proofs.Common.{◌≡◌, ◌⊎◌, ℕ, ℤ, List, Result, Ok, Err, inl, inr, sym, subst}
use Rattle.std.specs.Prelude.{Option}
use Rattle.digit_tuple.specs.Deterministic.{Automaton}
use Rattle.digit_tuple.specs.declared.direction.Direction.{Direction}
use Rattle.digit_tuple.specs.declared.step_fault.StepFault.{StepFault}
use Rattle.digit_tuple.specs.declared.step_fault.StepFault.TheVariants as steps
use Rattle.listings.specs.declared.line_fault.LineFault.{LineFault}
use Rattle.listings.specs.declared.line_fault.LineFault.TheVariants as lines
use Rattle.word_walk.specs.Listed.{is_listed}
use Rattle.table_listings.specs.Questions.{IsAskedOn, IsUnanswered}
use Rattle.table_listings.specs.declared.question.Question.{Question}
use Rattle.listing_commands.specs.declared.listing.Asked.{Asked}
use Rattle.listing_commands.specs.declared.listing_fault.ListingFault.{ListingFault}
use Rattle.listing_commands.specs.declared.listing_fault.ListingFault.TheVariants as own
use Rattle.listing_commands.specs.ListingFaults.{of_lines}
use Rattle.listing_commands.specs.ListingMakes.{IsNotAnswered, IsPlaceFault}

module _ (Does : Result Automaton StepFault → Type 0) (skip : Option Direction) (sets : List (List ℤ)) where
  -- the place
  pub place_refused : (asked : Asked) (fault : ListingFault) → IsPlaceFault sets asked fault → IsNotAnswered Does skip sets asked.name asked.question fault
  place_refused asked (own.Place of) is = is
  place_refused asked (own.Step (steps.Letters step)) is = absurd is
  place_refused asked (own.Step (steps.States step)) is = absurd is
  place_refused asked (own.Step steps.Memory) is = tt
  place_refused asked own.Long is = absurd is

  module _ (name : List ℕ) (question : Question) (on : IsAskedOn sets question) where
    -- a step
    pub step_refused : (fault : StepFault) → Does (Err fault) → IsNotAnswered Does skip sets name question (own.Step fault)
    step_refused (steps.Letters step) does = (on, does)
    step_refused (steps.States step) does = (on, does)
    step_refused steps.Memory does = tt

    -- a step, or memory ran out
    pub step_not_made : (fault : StepFault) → (fault ≡ steps.Memory) ⊎ Does (Err fault) → IsNotAnswered Does skip sets name question (own.Step fault)
    step_not_made fault (inl memory) = subst (λ (f : StepFault). IsNotAnswered Does skip sets name question (own.Step f)) (sym memory) tt
    step_not_made fault (inr does) = step_refused fault does

    -- the lines
    pub lines_refused : (read : Automaton) → Does (Ok read) → (fault : LineFault) → IsUnanswered (is_listed read skip) sets question fault → IsNotAnswered Does skip sets name question (of_lines fault)
    lines_refused read does lines.Long long = record { on = on; read = read; does = does; long = long }
    lines_refused read does lines.Memory out = tt
