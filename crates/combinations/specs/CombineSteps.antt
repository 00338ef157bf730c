-- The step that combines relations to a word.
use Rattle.std.specs.Prelude.{◌≡◌, ℕ, ℤ, List, Option, Result, Ok, Err}
use Rattle.std.specs.List.{All}
use Rattle.digit_tuple.specs.Steps.{StepLog}
use Rattle.digit_tuple.specs.declared.kind.Kind.TheVariants as kinds
use Rattle.minimise.specs.Residuals.{SameAfter}
use Rattle.product_op.specs.Validity.{TracksAlike}
use Rattle.numeration.specs.Representation.{sizes_of}
use Rattle.num_system.specs.Sealed.{SystemValue}
use Rattle.num_system.specs.Tracks.{languages_of, systems_of}
use Rattle.automaton_steps.specs.Makings.{Making, DoesStep}
use Rattle.word_output.specs.Words.{WordValue}
use Rattle.combinations.specs.Parts.{PartValue}
use Rattle.combinations.specs.Shapes.{HaveOneShape, IsShapeFault}
use Rattle.combinations.specs.Combined.{IsCombination}
use Rattle.combinations.specs.declared.combine_fault.CombineFault.{CombineFault}
use Rattle.combinations.specs.declared.combine_fault.CombineFault.TheVariants.{Shape, Step}

-- each listed relation, at each of its places, has one residual after both words, and so has each track's language
pub record CombineAlike (parts : List PartValue) (systems : List SystemValue) (w v : List ℕ) : Type 0 where
  pub relations : All (λ (part : PartValue). SameAfter part.relation.automaton w v) parts
  pub tracks : TracksAlike (sizes_of (systems_of systems)) (languages_of systems) w v

-- the step
abbrev pub combine_step : Option ℤ → List PartValue → List SystemValue → Making WordValue
combine_step rest parts systems = record {
  step = record { kind = kinds.Combine; sizes = sizes_of (systems_of systems); alike = CombineAlike parts systems };
  automaton_of = λ word. word.function.automaton;
  IsMade = IsCombination rest parts systems;
}

-- the relations have one shape, and the step is done or refused; or they have not, and no step is made
abbrev pub DoesCombine : Option ℤ → List PartValue → List SystemValue → StepLog → Result WordValue CombineFault → StepLog → Type 0
DoesCombine rest parts systems old (Ok word) new = HaveOneShape parts × DoesStep (combine_step rest parts systems) old (Ok word) new
DoesCombine rest parts systems old (Err (Step fault)) new = HaveOneShape parts × DoesStep (combine_step rest parts systems) old (Err fault) new
DoesCombine rest parts systems old (Err (Shape first other)) new = IsShapeFault parts first other × (new ≡ old)
