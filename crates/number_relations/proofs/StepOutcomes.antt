-- Each step on relations has one outcome.
use Rattle.std.proofs.Common.{◌≡◌, ℕ, List, sym, ◌∙◌, subst}
use Rattle.digit_tuple.specs.Deterministic.{Automaton, accepts_of}
use Rattle.digit_tuple.specs.Letters.{IsWord, product}
use Rattle.digit_tuple.specs.StepResults.{Then}
use Rattle.digit_tuple.specs.declared.direction.Direction.{Direction}
use Rattle.digit_tuple.specs.declared.step_fault.StepFault.TheVariants.{Memory}
use Rattle.digit_tuple.proofs.TruthLemmas.{same_tests}
use Rattle.minimise.specs.Canonical.{IsCanonical}
use Rattle.minimise.proofs.CanonicalLemmas.{canonical_forms}
use Rattle.product_op.proofs.WidthLaws.{IsEquivalence-product}
use Rattle.validity.proofs.WidthLaws.{IsEquivalence-validity}
use Rattle.pad_rename.specs.StayingTracks.{staying_places}
use Rattle.project_close.proofs.WidthLaws.{IsEquivalence-projection}
use Rattle.numeration.specs.Systems.{System}
use Rattle.automaton_steps.specs.Makings.{DoesStep}
use Rattle.automaton_steps.specs.Numbered.{numbered}
use Rattle.automaton_steps.specs.PadSteps.{pad_step}
use Rattle.automaton_steps.specs.ReadSteps.{read_step}
use Rattle.automaton_steps.proofs.OneAnswers.{pad_one, read_one}
use Rattle.automaton_steps.proofs.OneResults.{one_join, one_on_tracks, one_projection}
use Rattle.automaton_steps.proofs.StepAnswers.{step_one}
use Rattle.automaton_steps.proofs.ThenAnswers.{then_one}
use Rattle.constants.specs.Constants.{IsConstantOf}
use Rattle.constants.proofs.ConstantWidthLemmas.{IsEquivalence-constant}
use Rattle.num_system.specs.Sealed.{system_of}
use Rattle.num_system.specs.Tracks.{languages_of, direction_of}
use Rattle.number_relations.specs.Relations.{RelationValue, named_of, relation_over}
use Rattle.number_relations.specs.Joins.{joint_systems, relation_join_step}
use Rattle.number_relations.specs.Complements.{relation_complement_step}
use Rattle.number_relations.specs.Projections.{relation_project_step}
use Rattle.number_relations.specs.Constants.{relation_constant_step}
use Rattle.number_relations.specs.Readings.{reading_valid_step}
use Rattle.number_relations.specs.StepLaws.{ReadingHasOneAnswer, RelationComplementHasOneOutcome, RelationConstantHasOneOutcome, RelationJoinHasOneOutcome, RelationProjectHasOneOutcome}

-- relations with one named automaton and the same systems are equal
pub same_relation : (r s : RelationValue) → named_of r ≡ named_of s → r.systems ≡ s.systems → r ≡ s
same_relation r s named systems = λ i. relation_over (named i) (systems i)

pub join_one : RelationJoinHasOneOutcome
join_one op a b =
    let languages = languages_of (joint_systems a b) in
    step_one (relation_join_step op a b) (IsEquivalence-product op (named_of a) (named_of b) languages)
    (λ c d first second. same_relation c d (one_join op languages (named_of a) (named_of b) (named_of c) (named_of d) first.join second.join) (first.systems ∙ sym second.systems))

pub complement_one : RelationComplementHasOneOutcome
complement_one a =
    step_one (relation_complement_step a) (IsEquivalence-validity (named_of a) (languages_of a.systems))
    (λ c d first second. same_relation c d (one_on_tracks (named_of a) _ (named_of c) (named_of d) first.complement second.complement) (first.systems ∙ sym second.systems))

pub project_one : RelationProjectHasOneOutcome
project_one track a =
    let direction = direction_of a.systems in
    step_one (relation_project_step track a) (IsEquivalence-projection a.automaton (staying_places (named_of a) track) direction)
    (λ c d first second. same_relation c d (one_projection direction track (named_of a) (named_of c) (named_of d) first.projection second.projection) (first.systems ∙ sym second.systems))

-- a number has one canonical automaton
one_constant : (direction : Direction) (s : System) (number : ℕ) (d e : Automaton) → IsConstantOf direction s number d → IsConstantOf direction s number e → IsCanonical d → IsCanonical e → d ≡ e
one_constant direction s number d e first second canonical also =
    canonical_forms d e canonical also (first.sizes ∙ sym second.sizes)
    (λ w over.
    let here = subst (λ (sizes : List ℕ). IsWord (product sizes) w) first.sizes over in
    let one = first.accepts w here in
    let other = second.accepts w here in
    same_tests (accepts_of d w) (accepts_of e w) (λ is. other.1 (one.0 is), λ is. one.1 (other.0 is)))

pub constant_one : RelationConstantHasOneOutcome
constant_one system number name =
    step_one (relation_constant_step system number name) (IsEquivalence-constant system.direction (system_of system) number)
    (λ c d first second.
    let automata = one_constant system.direction (system_of system) number c.automaton d.automaton first.constant second.constant first.canonical second.canonical in
    same_relation c d (λ i. record { names = (first.names ∙ sym second.names) i; automaton = automata i }) (first.systems ∙ sym second.systems))

pub reading_one : ReadingHasOneAnswer
reading_one systems listed =
    let direction = direction_of systems in
    then_one Memory (DoesStep (read_step listed)) (λ read. Then (DoesStep (pad_step direction read)) (λ closed. DoesStep (reading_valid_step systems closed))) (read_one listed)
    (λ read. then_one Memory (DoesStep (pad_step direction read)) (λ closed. DoesStep (reading_valid_step systems closed)) (pad_one direction read)
    (λ closed. step_one (reading_valid_step systems closed) (IsEquivalence-validity (numbered closed) (languages_of systems))
    (λ r s first second. same_relation r s (one_on_tracks (numbered closed) _ (named_of r) (named_of s) first.part second.part) (first.systems_are ∙ sym second.systems_are))))
