-- The steps of a plan, one after another: each is done, or the first that passes a limit is refused.
use Rattle.std.specs.Prelude.{◌≡◌, ◌⊎◌, List, [], ◌∷◌, Result, Err}
use Rattle.digit_tuple.specs.StepResults.{Then}
use Rattle.digit_tuple.specs.Steps.{StepLog}
use Rattle.digit_tuple.specs.declared.step_fault.StepFault.{StepFault}
use Rattle.digit_tuple.specs.declared.step_fault.StepFault.TheVariants.{Memory}
use Rattle.automaton_steps.specs.Makings.{Making, DoesStep, Gives, WithSome}
use Rattle.num_system.specs.Sealed.{SystemValue}
use Rattle.number_relations.specs.Relations.{RelationValue}
use Rattle.number_relations.specs.Constants.{relation_constant_step}
use Rattle.number_relations.specs.Joins.{relation_join_step}
use Rattle.number_relations.specs.Complements.{relation_complement_step}
use Rattle.number_relations.specs.Projections.{relation_project_step}
use Rattle.term_plans.specs.Plans.{Plan, compared, added, number, called, lettered, renamed, constant, joined, paired, complement, projected}
use Rattle.plan_relations.specs.TrackNames.{track_name}
use Rattle.word_output.specs.Words.{WordValue}
use Rattle.plan_relations.specs.Libraries.{LibraryValue, IsWordIn, IsSystemIn}
use Rattle.plan_relations.specs.PairRelations.{relation_pair_step}
use Rattle.plan_relations.specs.Makings.{Makes, comparison_of, op_of, placed_on}

-- this is true of the last step of a plan, if it is made by one
abbrev pub WithStep : LibraryValue → Plan → (Making RelationValue → Type 0) → Type 0
WithStep l (compared y r s t) P = ⊥
WithStep l (added y s t u) P = ⊥
WithStep l (number y t) P = ⊥
WithStep l (called n ts) P = ⊥
WithStep l (lettered n ts r b) P = ⊥
WithStep l (renamed s t p) P = ⊥
WithStep l (constant y k t) P = (system : SystemValue) × IsSystemIn l y system × P (relation_constant_step system k (track_name t))
WithStep l (joined j p q) P = (a : RelationValue) × (b : RelationValue) × Makes l p a × Makes l q b × P (relation_join_step (op_of j) a b)
WithStep l (paired n ts r m us) P =
    (v : WordValue) × (w : WordValue) × IsWordIn l n v × IsWordIn l m w × P (relation_pair_step (comparison_of r) (placed_on v ts) (placed_on w us))
WithStep l (complement p) P = (a : RelationValue) × Makes l p a × P (relation_complement_step a)
WithStep l (projected t p) P = (a : RelationValue) × Makes l p a × P (relation_project_step (track_name t) a)

-- the last step of a plan is done, or refused
abbrev pub DoesLastStep : LibraryValue → Plan → StepLog → Result RelationValue StepFault → StepLog → Type 0
DoesLastStep l p old result new = WithStep l p (λ making. DoesStep making old result new)

-- the steps of these plans in order, and what the last plan makes
abbrev pub DoesSteps : LibraryValue → List Plan → Plan → StepLog → Result RelationValue StepFault → StepLog → Type 0
DoesSteps l [] last = WithSome (Makes l last) Gives
DoesSteps l (p ∷ ps) last = Then (DoesLastStep l p) (λ made. DoesSteps l ps last)

-- all steps are done, or stopped at the first that passes a limit, or memory runs out
abbrev pub Builds : LibraryValue → List Plan → Plan → StepLog → Result RelationValue StepFault → StepLog → Type 0
Builds l steps last old result new = (result ≡ Err Memory) ⊎ DoesSteps l steps last old result new
