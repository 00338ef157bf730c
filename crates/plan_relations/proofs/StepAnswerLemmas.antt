-- The last step of a plan has one answer.
use Rattle.std.proofs.Common.{◌≡◌, subst}
use Rattle.digit_tuple.specs.declared.step_fault.StepFault.TheVariants.{Memory}
use Rattle.automaton_steps.specs.Makings.{Making, DoesStep}
use Rattle.automaton_steps.specs.OneAnswers.{HasOneAnswer}
use Rattle.num_system.specs.Sealed.{SystemValue}
use Rattle.number_relations.specs.Complements.{relation_complement_step}
use Rattle.number_relations.specs.Constants.{relation_constant_step}
use Rattle.number_relations.specs.Joins.{relation_join_step}
use Rattle.number_relations.specs.Projections.{relation_project_step}
use Rattle.number_relations.specs.Relations.{RelationValue}
use Rattle.number_relations.proofs.StepOutcomes.{complement_one, constant_one, join_one, project_one}
use Rattle.term_plans.specs.Plans.{Plan, constant, joined, paired, complement, projected}
use Rattle.plan_relations.specs.TrackNames.{track_name}
use Rattle.word_output.specs.Words.{WordValue}
use Rattle.plan_relations.specs.Libraries.{LibraryValue, IsLibrary, IsWordIn, IsSystemIn}
use Rattle.plan_relations.specs.PairRelations.{relation_pair_step}
use Rattle.plan_relations.specs.Makings.{Makes, comparison_of, op_of, placed_on}
use Rattle.plan_relations.specs.Building.{DoesLastStep}
use Rattle.plan_relations.proofs.OneMadeLemmas.{made_once, one_system, one_word}
use Rattle.plan_relations.proofs.PairRelationLemmas.{pair_one}

-- the step of the one thing that is so
module _ {X : Type 0} (Is : X → Type 0) (step : X → Making RelationValue) (one : (x y : X) → Is x → Is y → y ≡ x) (each : (x : X) → HasOneAnswer Memory (DoesStep (step x))) where
  of_one : HasOneAnswer Memory (λ old result new. (x : X) × Is x × DoesStep (step x) old result new)
  of_one old new next result other (x, is, first) (y, also, second) =
      each x old new next result other first (subst (λ (z : X). DoesStep (step z) old other next) (one x y is also) second)

-- or of two of them
module _ {X : Type 0} (Is Also : X → Type 0) (step : X → X → Making RelationValue) (one : (x y : X) → Is x → Is y → y ≡ x) (two : (x y : X) → Also x → Also y → y ≡ x)
    (each : (x y : X) → HasOneAnswer Memory (DoesStep (step x y))) where
  of_two : HasOneAnswer Memory (λ old result new. (x : X) × (y : X) × Is x × Also y × DoesStep (step x y) old result new)
  of_two old new next result other (a, b, is_a, is_b, first) (c, d, is_c, is_d, second) =
      each a b old new next result other first
      (subst (λ (x : X). DoesStep (step x b) old other next) (one a c is_a is_c) (subst (λ (y : X). DoesStep (step c y) old other next) (two b d is_b is_d) second))

module _ (l : LibraryValue) (library : IsLibrary l) where
  one_relation : (p : Plan) (a b : RelationValue) → Makes l p a → Makes l p b → b ≡ a
  one_relation p a b first second = made_once l p b a library second first

  pub last_step_one : (p : Plan) → HasOneAnswer Memory (DoesLastStep l p)
  last_step_one (constant y k t) = of_one (IsSystemIn l y) (λ (s : SystemValue). relation_constant_step s k (track_name t)) (one_system l y) (λ s. constant_one s k (track_name t))
  last_step_one (joined j p q) = of_two (Makes l p) (Makes l q) (relation_join_step (op_of j)) (one_relation p) (one_relation q) (join_one (op_of j))
  last_step_one (paired n ts r m us) =
      of_two (IsWordIn l n) (IsWordIn l m) (λ (v w : WordValue). relation_pair_step (comparison_of r) (placed_on v ts) (placed_on w us)) (one_word l n) (one_word l m)
      (λ v w. pair_one (comparison_of r) (placed_on v ts) (placed_on w us))
  last_step_one (complement p) = of_one (Makes l p) relation_complement_step (one_relation p) complement_one
  last_step_one (projected t p) = of_one (Makes l p) (relation_project_step (track_name t)) (one_relation p) (project_one (track_name t))
  last_step_one _ = λ old new next result other first second. absurd first
