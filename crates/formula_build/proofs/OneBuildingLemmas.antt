-- A formula is built in one way.
use Rattle.std.proofs.Common.{◌≡◌, ℕ, List, [], ◌∷◌, map}
use Rattle.digit_tuple.specs.Names.{joint_names}
use Rattle.digit_tuple.specs.declared.step_fault.StepFault.TheVariants.{Memory}
use Rattle.automaton_steps.specs.Makings.{Gives, WithSome}
use Rattle.automaton_steps.specs.OneAnswers.{HasOneAnswer}
use Rattle.automaton_steps.proofs.ThenAnswers.{gives_one, or_memory_one, some_one, then_one}
use Rattle.term_plans.specs.Plans.{Plan, Made}
use Rattle.number_relations.specs.Relations.{RelationValue, RelationHolds}
use Rattle.num_system.specs.Tracks.{systems_under}
use Rattle.number_relations.specs.Placed.{IsOrdered}
use Rattle.number_relations.proofs.RelationLemmas.{one_relation}
use Rattle.plan_relations.specs.Libraries.{LibraryValue, IsLibrary}
use Rattle.plan_relations.specs.Building.{Builds, DoesLastStep, DoesSteps}
use Rattle.plan_relations.specs.Makings.{Makes}
use Rattle.formula_build.specs.Solutions.{BuildsFormula}
use Rattle.formula_build.specs.OneBuilding.{OneBuilding}
use Rattle.plan_relations.proofs.OneMadeLemmas.{made_once}
use Rattle.plan_relations.proofs.StepAnswerLemmas.{last_step_one}
use Rattle.formula_build.proofs.LargerLibrary.{both, both_library, first_within, second_within, builds_within}

-- a relation has one order
one_ordered : (r s t : RelationValue) → IsOrdered r s → IsOrdered r t → s ≡ t
one_ordered r s t first second =
    one_relation (joint_names r.names []) (systems_under r.names r.systems (joint_names r.names [])) (λ (number_of : List ℕ → ℕ). RelationHolds r (map number_of r.names)) s t first second

module _ (l : LibraryValue) (library : IsLibrary l) where
  steps_one : (ps : List Plan) (last : Plan) → HasOneAnswer Memory (DoesSteps l ps last)
  steps_one [] last = some_one (Makes l last) Gives (λ c d first second. made_once l last c d library first second) gives_one
  steps_one (p ∷ ps) last = then_one Memory (DoesLastStep l p) (λ made. DoesSteps l ps last) (last_step_one l library p) (λ made. steps_one ps last)

  -- with one library
  one_formula : (p : Made) → HasOneAnswer Memory (BuildsFormula l p)
  one_formula p =
      then_one Memory (Builds l p.steps p.last) (λ made. WithSome (IsOrdered made) Gives) (or_memory_one (DoesSteps l p.steps p.last) (steps_one p.steps p.last))
      (λ made. some_one (IsOrdered made) Gives (one_ordered made) gives_one)

-- with two that agree
pub one_building : OneBuilding
one_building l m old new next p result other first second agree builds also =
    one_formula (both l m) (both_library l m first second) p old new next result other (builds_within l (both l m) (first_within l m) old new p result builds)
    (builds_within m (both l m) (second_within l m agree) old next p other also)
