-- What is built is what the last plan makes.
use Rattle.std.proofs.Common.{inl, inr, List, [], ◌∷◌, Ok, sym, subst}
use Rattle.digit_tuple.specs.Steps.{StepLog}
use Rattle.digit_tuple.specs.declared.step_fault.StepFault.TheVariants.{Memory}
use Rattle.automaton_steps.proofs.ThenAnswers.{equal_value, no_fault}
use Rattle.term_plans.specs.Plans.{Plan}
use Rattle.number_relations.specs.Relations.{RelationValue}
use Rattle.plan_relations.specs.Libraries.{LibraryValue}
use Rattle.plan_relations.specs.Makings.{Makes}
use Rattle.plan_relations.specs.Building.{Builds, DoesSteps}

module _ (l : LibraryValue) (last : Plan) (c : RelationValue) where
  done_makes : (ps : List Plan) (old new : StepLog) → DoesSteps l ps last old (Ok c) new → Makes l last c
  done_makes [] old new (inl out) = absurd (no_fault c Memory out)
  done_makes [] old new (inr (value, makes, given)) = subst (Makes l last) (sym (equal_value c value given.0)) makes
  done_makes (p ∷ ps) old new (inl (made, mid, first, rest)) = done_makes ps mid new rest
  done_makes (p ∷ ps) old new (inr (fault, refused, is)) = absurd (no_fault c fault is)

  pub built_makes : (ps : List Plan) (old new : StepLog) → Builds l ps last old (Ok c) new → Makes l last c
  built_makes ps old new (inl out) = absurd (no_fault c Memory out)
  built_makes ps old new (inr does) = done_makes ps old new does
