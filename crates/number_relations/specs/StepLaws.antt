-- Laws of the relations that steps make, on tuples of numbers.
use Rattle.std.specs.Prelude.{◌≡◌, ℕ, ◌*◌, List, [], ◌∷◌, length, ◌↔◌, Ok}
use Rattle.std.specs.List.{AllByRecursion}
use Rattle.digit_tuple.specs.Automaton.{Branching}
use Rattle.digit_tuple.specs.Names.{AreDistinct, places_of}
use Rattle.digit_tuple.specs.Steps.{StepLog}
use Rattle.digit_tuple.specs.declared.step_fault.StepFault.TheVariants.{Memory}
use Rattle.product_op.specs.declared.op.Op.{Op}
use Rattle.pad_rename.specs.StayingTracks.{staying_places}
use Rattle.numeration.specs.Representation.{sizes_of}
use Rattle.numeration.specs.SomeTracks.{completed}
use Rattle.num_system.specs.Joined.{joined, IsBound}
use Rattle.num_system.specs.Sealed.{SystemValue, IsSealed}
use Rattle.num_system.specs.Tracks.{ShareDirection, systems_of, direction_of, number_under}
use Rattle.automaton_steps.specs.Laws.{HasOneOutcome}
use Rattle.automaton_steps.specs.OneAnswers.{HasOneAnswer}
use Rattle.number_relations.specs.Relations.{RelationValue, IsRelation, RelationHolds, named_of, systems_in}
use Rattle.number_relations.specs.Joins.{AgreeOnSystems, HaveOneDirection, IsRelationJoin, relation_join_step}
use Rattle.number_relations.specs.Complements.{IsRelationComplement, relation_complement_step}
use Rattle.number_relations.specs.Projections.{IsRelationProjection, relation_project_step}
use Rattle.number_relations.specs.Constants.{IsRelationConstant, relation_constant_step}
use Rattle.number_relations.specs.Multiples.{DoesMultiple, IsMultiple}
use Rattle.number_relations.specs.Readings.{DoesReading, IsListedOf}

-- a join holds of numbers as the connective says of the relations on those of their tracks
abbrev pub JoinsHold : Type 0
JoinsHold = (op : Op) (a b c : RelationValue) (ns : List ℕ) → IsRelation a → IsRelation b → AgreeOnSystems a b → HaveOneDirection a b → IsBound op a.names b.names
    → IsRelationJoin op a b c → length ns ≡ length c.names
    → RelationHolds c ns ↔ joined op (places_of c.names a.names) (RelationHolds a) (places_of c.names b.names) (RelationHolds b) ns

-- and is a relation
abbrev pub JoinsAreRelations : Type 0
JoinsAreRelations = (op : Op) (a b c : RelationValue) → IsRelation a → IsRelation b → AgreeOnSystems a b → HaveOneDirection a b → IsBound op a.names b.names
    → IsRelationJoin op a b c → IsRelation c

-- the step has one outcome
abbrev pub RelationJoinHasOneOutcome : Type 0
RelationJoinHasOneOutcome = (op : Op) (a b : RelationValue) → HasOneOutcome (relation_join_step op a b)

-- a complement holds of the numbers of which the relation does not hold
abbrev pub ComplementsHold : Type 0
ComplementsHold = (a c : RelationValue) (ns : List ℕ) → IsRelation a → IsRelationComplement a c → length ns ≡ length c.names → RelationHolds c ns ↔ ¬ RelationHolds a ns

abbrev pub ComplementsAreRelations : Type 0
ComplementsAreRelations = (a c : RelationValue) → IsRelation a → IsRelationComplement a c → IsRelation c

abbrev pub RelationComplementHasOneOutcome : Type 0
RelationComplementHasOneOutcome = (a : RelationValue) → HasOneOutcome (relation_complement_step a)

-- a projection holds of numbers that some number on the dropped track completes to numbers of which the relation holds
abbrev pub ProjectionsHold : Type 0
ProjectionsHold = (track : List ℕ) (a c : RelationValue) (ns : List ℕ) → IsRelation a → IsRelationProjection track a c → length ns ≡ length c.names
    → RelationHolds c ns ↔ completed (systems_in a) (staying_places (named_of a) track) (RelationHolds a) ns

abbrev pub ProjectionsAreRelations : Type 0
ProjectionsAreRelations = (track : List ℕ) (a c : RelationValue) → IsRelation a → IsRelationProjection track a c → IsRelation c

abbrev pub RelationProjectHasOneOutcome : Type 0
RelationProjectHasOneOutcome = (track : List ℕ) (a : RelationValue) → HasOneOutcome (relation_project_step track a)

-- a constant holds of its number alone
abbrev pub ConstantsHold : Type 0
ConstantsHold = (system : SystemValue) (number : ℕ) (name : List ℕ) (c : RelationValue) (n : ℕ) → IsSealed system → IsRelationConstant system number name c
    → RelationHolds c (n ∷ []) ↔ (n ≡ number)

abbrev pub ConstantsAreRelations : Type 0
ConstantsAreRelations = (system : SystemValue) (number : ℕ) (name : List ℕ) (c : RelationValue) → IsSealed system → IsRelationConstant system number name c → IsRelation c

abbrev pub RelationConstantHasOneOutcome : Type 0
RelationConstantHasOneOutcome = (system : SystemValue) (number : ℕ) (name : List ℕ) → HasOneOutcome (relation_constant_step system number name)

-- the steps of a factor make its multiple
abbrev pub StepsMakeMultiples : Type 0
StepsMakeMultiples = (system : SystemValue) (factor : ℕ) (x y w : List ℕ) (old new : StepLog) (r : RelationValue) → IsSealed system → AreDistinct (x ∷ y ∷ w ∷ [])
    → DoesMultiple system factor x y w old (Ok r) new → IsMultiple system factor x y r

-- a multiple holds of two numbers where the one is so many times the other
abbrev pub MultiplesHold : Type 0
MultiplesHold = (system : SystemValue) (factor : ℕ) (x y : List ℕ) (r : RelationValue) (ns : List ℕ) → IsMultiple system factor x y r → length ns ≡ length r.names
    → RelationHolds r ns ↔ (number_under r.names ns y ≡ factor * number_under r.names ns x)

-- a relation that was read holds of the numbers of which some representation is accepted by the listed automaton, and is a relation
abbrev pub ReadingsHold : Type 0
ReadingsHold = (systems : List SystemValue) (listed : Branching) (old new : StepLog) (r : RelationValue) (ns : List ℕ)
    → AllByRecursion IsSealed systems → ShareDirection systems → listed.sizes ≡ sizes_of (systems_of systems) → DoesReading systems listed old (Ok r) new → length ns ≡ length systems
    → RelationHolds r ns ↔ IsListedOf (direction_of systems) (systems_of systems) listed ns

abbrev pub ReadingsAreRelations : Type 0
ReadingsAreRelations = (systems : List SystemValue) (listed : Branching) (old new : StepLog) (r : RelationValue)
    → AllByRecursion IsSealed systems → ShareDirection systems → listed.sizes ≡ sizes_of (systems_of systems) → DoesReading systems listed old (Ok r) new → IsRelation r

-- its steps have one answer
abbrev pub ReadingHasOneAnswer : Type 0
ReadingHasOneAnswer = (systems : List SystemValue) (listed : Branching) → HasOneAnswer Memory (DoesReading systems listed)
