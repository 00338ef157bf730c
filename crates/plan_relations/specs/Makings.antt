-- What plans make: relations.
use Rattle.std.specs.Prelude.{List, map, length, ◌≡◌}
use Rattle.std.specs.List.{Contains}
use Rattle.formula_parse.specs.Tokens.{Relation, equal, unequal, less, greater, at_most, at_least}
use Rattle.formula_parse.specs.Trees.{Joint, and, or, xor, implies, iff}
use Rattle.term_plans.specs.Tracks.{Track}
use Rattle.term_plans.specs.Plans.{Plan, compared, added, number, called, lettered, renamed, constant, joined, paired, complement, projected}
use Rattle.product_op.specs.declared.op.Op.{Op}
use Rattle.product_op.specs.declared.op.Op.TheVariants as ops
use Rattle.num_system.specs.Sealed.{SystemValue}
use Rattle.number_relations.specs.Relations.{RelationValue, system_named}
use Rattle.num_system.specs.Tracks.{AgreeUnder}
use Rattle.number_relations.specs.Placed.{IsPlaced, IsRenamed}
use Rattle.number_relations.specs.Comparisons.{IsComparison, IsSumRelation, IsAnyNumber}
use Rattle.number_relations.specs.Constants.{IsRelationConstant}
use Rattle.number_relations.specs.Joins.{IsRelationJoin, AgreeOnSystems, HaveOneDirection}
use Rattle.number_relations.specs.Complements.{IsRelationComplement}
use Rattle.number_relations.specs.Projections.{IsRelationProjection}
use Rattle.num_system.specs.declared.comparison.Comparison.{Comparison}
use Rattle.num_system.specs.declared.comparison.Comparison.TheVariants as comparisons
use Rattle.word_output.specs.Words.{WordValue}
use Rattle.plan_relations.specs.TrackNames.{track_name}
use Rattle.plan_relations.specs.Libraries.{LibraryValue, IsRelationIn, IsWordIn, IsSystemIn}
use Rattle.plan_relations.specs.PlacedWords.{PlacedWord}
use Rattle.plan_relations.specs.LetterRelations.{IsLetterRelation}
use Rattle.plan_relations.specs.PairRelations.{MayPairWords, IsRelationPair}

-- the comparison of a formula's relation
abbrev pub comparison_of : Relation → Comparison
comparison_of equal = comparisons.Equal
comparison_of unequal = comparisons.Unequal
comparison_of less = comparisons.Less
comparison_of greater = comparisons.Greater
comparison_of at_most = comparisons.AtMost
comparison_of at_least = comparisons.AtLeast

-- the connective of a formula's
abbrev pub op_of : Joint → Op
op_of and = ops.And
op_of or = ops.Or
op_of xor = ops.Xor
op_of implies = ops.Implies
op_of iff = ops.Iff

-- a word whose tracks are under the names of these
abbrev pub placed_on : WordValue → List Track → PlacedWord
placed_on w ts = record { word = w; under = map track_name ts }

-- the relation that a plan makes, from what names mean
abbrev pub Makes : LibraryValue → Plan → RelationValue → Type 0
Makes l (compared y r s t) c = (system : SystemValue) × IsSystemIn l y system × IsComparison system (comparison_of r) (track_name s) (track_name t) c
Makes l (added y s t u) c = (system : SystemValue) × IsSystemIn l y system × IsSumRelation system (track_name s) (track_name t) (track_name u) c
Makes l (number y t) c = (system : SystemValue) × IsSystemIn l y system × IsAnyNumber system (track_name t) c
Makes l (called n ts) c = (r : RelationValue) × IsRelationIn l n r × IsPlaced r.automaton r.systems (map track_name ts) c
Makes l (lettered n ts r b) c = (w : WordValue) × IsWordIn l n w × IsLetterRelation (comparison_of r) b (placed_on w ts) c
Makes l (renamed s t p) c = (a : RelationValue) × Makes l p a × IsRenamed a (track_name s) (track_name t) c
Makes l (constant y k t) c = (system : SystemValue) × IsSystemIn l y system × IsRelationConstant system k (track_name t) c
Makes l (joined j p q) c = (a : RelationValue) × (b : RelationValue) × Makes l p a × Makes l q b × IsRelationJoin (op_of j) a b c
Makes l (paired n ts r m us) c = (v : WordValue) × (w : WordValue) × IsWordIn l n v × IsWordIn l m w × IsRelationPair (comparison_of r) (placed_on v ts) (placed_on w us) c
Makes l (complement p) c = (a : RelationValue) × Makes l p a × IsRelationComplement a c
Makes l (projected t p) c = (a : RelationValue) × Makes l p a × IsRelationProjection (track_name t) a c

-- tracks of one name are over one system, and all have one direction
abbrev pub MayJoin : RelationValue → RelationValue → Type 0
MayJoin a b = AgreeOnSystems a b × HaveOneDirection a b

-- A plan can be made: each name means something, with a track for each argument; tracks that become one have one system, as
-- those of one direction that are joined have; and a track that is dropped is there.
abbrev pub IsReady : LibraryValue → Plan → Type 0
IsReady l (compared y r s t) = (system : SystemValue) × IsSystemIn l y system
IsReady l (added y s t u) = (system : SystemValue) × IsSystemIn l y system
IsReady l (number y t) = (system : SystemValue) × IsSystemIn l y system
IsReady l (called n ts) = (r : RelationValue) × IsRelationIn l n r × (length ts ≡ length r.names) × AgreeUnder (map track_name ts) r.systems
IsReady l (lettered n ts r b) = (w : WordValue) × IsWordIn l n w × (length ts ≡ length w.systems) × AgreeUnder (map track_name ts) w.systems
IsReady l (renamed s t p) =
    IsReady l p × ((a : RelationValue) → Makes l p a → Contains a.names (track_name s) → Contains a.names (track_name t) → system_named a (track_name s) ≡ system_named a (track_name t))
IsReady l (constant y k t) = (system : SystemValue) × IsSystemIn l y system
IsReady l (joined j p q) = IsReady l p × IsReady l q × ((a b : RelationValue) → Makes l p a → Makes l q b → MayJoin a b)
IsReady l (paired n ts r m us) = (v : WordValue) × (w : WordValue) × IsWordIn l n v × IsWordIn l m w × MayPairWords (placed_on v ts) (placed_on w us)
IsReady l (complement p) = IsReady l p
IsReady l (projected t p) = IsReady l p × ((a : RelationValue) → Makes l p a → Contains a.names (track_name t))
