-- A step on automata is one on relations.
use Rattle.std.proofs.Common.{◌≡◌, ℕ, List, Ok, Err, refl, ap, ◌∙◌, subst}
use Rattle.digit_tuple.specs.Deterministic.{Automaton, states_of}
use Rattle.digit_tuple.specs.StepResults.{IsLineOf}
use Rattle.digit_tuple.specs.Steps.{Step, StepLog}
use Rattle.digit_tuple.specs.declared.direction.Direction.{Direction}
use Rattle.digit_tuple.specs.declared.step_fault.StepFault.{StepFault}
use Rattle.minimise.specs.Tracked.{NamedAutomaton}
use Rattle.product_op.specs.declared.op.Op.{Op}
use Rattle.automaton_steps.specs.JoinSteps.{IsJoin, join_step}
use Rattle.automaton_steps.specs.Makings.{Making, DoesStep, IsRefusedStep}
use Rattle.automaton_steps.specs.ProjectSteps.{IsProjection, project_step}
use Rattle.automaton_steps.specs.ValiditySteps.{IsComplement, complement_step}
use Rattle.num_system.specs.Sealed.{SystemValue}
use Rattle.num_system.specs.Tracks.{direction_of, languages_of}
use Rattle.number_relations.specs.Relations.{RelationValue, named_of, relation_over}
use Rattle.number_relations.specs.Joins.{IsRelationJoin, joint_systems, relation_join_step}
use Rattle.number_relations.specs.Complements.{IsRelationComplement, relation_complement_step}
use Rattle.number_relations.specs.Projections.{IsRelationProjection, relation_project_step, staying_systems}

-- a step that is done with one value is done with another one whose automaton has as many states
pub step_done : {A B : Type 0} (first : Making A) (second : Making B) (a : A) (b : B) → first.step ≡ second.step → states_of (first.automaton_of a) ≡ states_of (second.automaton_of b)
    → (first.IsMade a → second.IsMade b) → (old new : StepLog) → DoesStep first old (Ok a) new → DoesStep second old (Ok b) new
step_done first second a b same states made old new done = record {
  line = done.line;
  step = record {
    made_is = made done.step.made_is;
    line_is =
        subst (λ (n : ℕ). IsLineOf old.limit second.step n done.line) states (subst (λ (step : Step). IsLineOf old.limit step (states_of (first.automaton_of a)) done.line) same done.step.line_is);
  };
  new_is = done.new_is;
}

-- and is refused alike
pub step_refused : {A B : Type 0} (first : Making A) (second : Making B) → first.step ≡ second.step → (old new : StepLog) (fault : StepFault) → DoesStep first old (Err fault) new
    → DoesStep second old (Err fault) new
step_refused first second same old new fault = subst (λ (step : Step). IsRefusedStep old step fault × (new ≡ old)) same

module _ (op : Op) (a b : RelationValue) (systems : List SystemValue) (languages : List Automaton) (same : systems ≡ joint_systems a b) (are : languages ≡ languages_of systems) where
  abbrev pub joins : Making NamedAutomaton
  joins = join_step op languages (named_of a) (named_of b)

  languages_joint : languages ≡ languages_of (joint_systems a b)
  languages_joint = are ∙ ap languages_of same

  pub join_same : joins.step ≡ (relation_join_step op a b).step
  join_same = ap (λ (ls : List Automaton). (join_step op ls (named_of a) (named_of b)).step) languages_joint

  pub join_made : (joined : NamedAutomaton) → IsJoin op languages (named_of a) (named_of b) joined → IsRelationJoin op a b (relation_over joined systems)
  join_made joined is = record { systems = same; join = subst (λ (ls : List Automaton). IsJoin op ls (named_of a) (named_of b) joined) languages_joint is }

  pub join_done : (joined : NamedAutomaton) (old new : StepLog) → DoesStep joins old (Ok joined) new → DoesStep (relation_join_step op a b) old (Ok (relation_over joined systems)) new
  join_done joined = step_done joins (relation_join_step op a b) joined (relation_over joined systems) join_same refl (join_made joined)

module _ (a : RelationValue) (systems : List SystemValue) (languages : List Automaton) (same : systems ≡ a.systems) (are : languages ≡ languages_of systems) where
  abbrev pub complements : Making NamedAutomaton
  complements = complement_step languages (named_of a)

  languages_own : languages ≡ languages_of a.systems
  languages_own = are ∙ ap languages_of same

  pub complement_same : complements.step ≡ (relation_complement_step a).step
  complement_same = ap (λ (ls : List Automaton). (complement_step ls (named_of a)).step) languages_own

  pub complement_made : (complement : NamedAutomaton) → IsComplement languages (named_of a) complement → IsRelationComplement a (relation_over complement systems)
  complement_made complement is = record { systems = same; complement = subst (λ (ls : List Automaton). IsComplement ls (named_of a) complement) languages_own is }

  pub complement_done : (complement : NamedAutomaton) (old new : StepLog) → DoesStep complements old (Ok complement) new → DoesStep (relation_complement_step a) old (Ok (relation_over complement systems)) new
  complement_done complement = step_done complements (relation_complement_step a) complement (relation_over complement systems) complement_same refl (complement_made complement)

module _ (track : List ℕ) (a : RelationValue) (direction : Direction) (systems : List SystemValue) (is : direction ≡ direction_of a.systems) (same : systems ≡ staying_systems a track) where
  abbrev pub projects : Making NamedAutomaton
  projects = project_step direction track (named_of a)

  pub project_same : projects.step ≡ (relation_project_step track a).step
  project_same = ap (λ (w : Direction). (project_step w track (named_of a)).step) is

  pub project_made : (projected : NamedAutomaton) → IsProjection direction track (named_of a) projected → IsRelationProjection track a (relation_over projected systems)
  project_made projected made = record { systems = same; projection = subst (λ (w : Direction). IsProjection w track (named_of a) projected) is made }

  pub project_done : (projected : NamedAutomaton) (old new : StepLog) → DoesStep projects old (Ok projected) new → DoesStep (relation_project_step track a) old (Ok (relation_over projected systems)) new
  project_done projected = step_done projects (relation_project_step track a) projected (relation_over projected systems) project_same refl (project_made projected)
