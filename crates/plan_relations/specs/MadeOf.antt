-- How a relation is made of those before it in a list. Nobody has to believe this: it serves the loop that makes one after another.
use Rattle.std.specs.Prelude.{◌≡◌, ℕ, ◌<◌, List, [], map, length, slice_index_or, Result, MatchResult, Bool, true, false, ◌⊎◌, slice_set, ⊤}
use Rattle.std.specs.List.{Contains}
use Rattle.digit_tuple.specs.Steps.{StepLog}
use Rattle.digit_tuple.specs.declared.step_fault.StepFault.{StepFault}
use Rattle.digit_tuple.specs.declared.step_fault.StepFault.TheVariants as faults
use Rattle.automaton_steps.specs.Makings.{DoesStep}
use Rattle.formula_parse.specs.Views.{relation_view, connective_view}
use Rattle.term_plans.specs.Makings.{track_view, plan_at}
use Rattle.term_plans.specs.Plans.{Plan, is_step}
use Rattle.term_plans.specs.declared.track.Track.{Track}
use Rattle.term_plans.specs.declared.making.Making.{Making}
use Rattle.term_plans.specs.declared.making.Making.TheVariants.{Compared, Added, Number, Called, Lettered, Renamed, Constant, Joined, Paired, Complement, Projected}
use Rattle.num_system.specs.Sealed.{SystemValue}
use Rattle.num_system.specs.Tracks.{no_automaton, AgreeUnder}
use Rattle.number_relations.specs.Relations.{RelationValue, system_named}
use Rattle.number_relations.specs.Placed.{IsPlaced, IsRenamed}
use Rattle.number_relations.specs.Comparisons.{IsComparison, IsSumRelation, IsAnyNumber}
use Rattle.number_relations.specs.Constants.{relation_constant_step}
use Rattle.number_relations.specs.Joins.{relation_join_step}
use Rattle.number_relations.specs.Complements.{relation_complement_step}
use Rattle.number_relations.specs.Projections.{relation_project_step}
use Rattle.plan_relations.specs.TrackNames.{track_name}
use Rattle.word_output.specs.Words.{WordValue}
use Rattle.plan_relations.specs.Libraries.{LibraryValue, IsRelationIn, IsWordIn, IsSystemIn}
use Rattle.plan_relations.specs.PlacedWords.{PlacedWord}
use Rattle.plan_relations.specs.LetterRelations.{IsLetterRelation}
use Rattle.plan_relations.specs.PairRelations.{MayPairWords, relation_pair_step}
use Rattle.plan_relations.specs.Parts.{IsPart}
use Rattle.plan_relations.specs.Makings.{Makes, MayJoin, comparison_of, op_of}

abbrev pub name_of : Track → List ℕ
name_of t = track_name (track_view t)

-- a word whose tracks are under the names of these
abbrev pub placed_at : WordValue → List Track → PlacedWord
placed_at w ts = record { word = w; under = map name_of ts }

-- the relation at a place
abbrev pub relation_at : List RelationValue → ℕ → RelationValue
relation_at rs i = slice_index_or rs i (record { names = []; systems = []; automaton = no_automaton })

-- what it is made of is there
abbrev pub MayMake : LibraryValue → List RelationValue → Making → Type 0
MayMake l rs (Compared y r s t) = (system : SystemValue) × IsSystemIn l y system
MayMake l rs (Added y s t u) = (system : SystemValue) × IsSystemIn l y system
MayMake l rs (Number y t) = (system : SystemValue) × IsSystemIn l y system
MayMake l rs (Called n ts) = (r : RelationValue) × IsRelationIn l n r × (length ts.items ≡ length r.names) × AgreeUnder (map name_of ts.items) r.systems
MayMake l rs (Lettered n ts r b) = (w : WordValue) × IsWordIn l n w × (length ts.items ≡ length w.systems) × AgreeUnder (map name_of ts.items) w.systems
MayMake l rs (Renamed s t p) =
    (p < length rs) × (let a = relation_at rs p in Contains a.names (name_of s) → Contains a.names (name_of t) → system_named a (name_of s) ≡ system_named a (name_of t))
MayMake l rs (Constant y c t) = (system : SystemValue) × IsSystemIn l y system
MayMake l rs (Joined j p q) = (p < length rs) × (q < length rs) × MayJoin (relation_at rs p) (relation_at rs q)
MayMake l rs (Paired n ts r m us) = (v : WordValue) × (w : WordValue) × IsWordIn l n v × IsWordIn l m w × MayPairWords (placed_at v ts.items) (placed_at w us.items)
MayMake l rs (Complement p) = p < length rs
MayMake l rs (Projected t p) = (p < length rs) × Contains (relation_at rs p).names (name_of t)

-- made without a step, or memory ran out; the steps stay
abbrev pub IsMadeBare : StepLog → (RelationValue → Type 0) → Result RelationValue StepFault → StepLog → Type 0
IsMadeBare old IsIt result new = (new ≡ old) × MatchResult result IsIt (λ fault. fault ≡ faults.Memory)

-- it is made, by its step where it has one
abbrev pub DoesMaking : StepLog → LibraryValue → List RelationValue → Making → Result RelationValue StepFault → StepLog → Type 0
DoesMaking old l rs (Compared y r s t) result new =
    IsMadeBare old (λ c. (system : SystemValue) × IsSystemIn l y system × IsComparison system (comparison_of (relation_view r)) (name_of s) (name_of t) c) result new
DoesMaking old l rs (Added y s t u) result new = IsMadeBare old (λ c. (system : SystemValue) × IsSystemIn l y system × IsSumRelation system (name_of s) (name_of t) (name_of u) c) result new
DoesMaking old l rs (Number y t) result new = IsMadeBare old (λ c. (system : SystemValue) × IsSystemIn l y system × IsAnyNumber system (name_of t) c) result new
DoesMaking old l rs (Called n ts) result new = IsMadeBare old (λ c. (r : RelationValue) × IsRelationIn l n r × IsPlaced r.automaton r.systems (map name_of ts.items) c) result new
DoesMaking old l rs (Lettered n ts r b) result new =
    IsMadeBare old (λ c. (w : WordValue) × IsWordIn l n w × IsLetterRelation (comparison_of (relation_view r)) b (placed_at w ts.items) c) result new
DoesMaking old l rs (Renamed s t p) result new = IsMadeBare old (IsRenamed (relation_at rs p) (name_of s) (name_of t)) result new
DoesMaking old l rs (Constant y c t) result new = (system : SystemValue) × IsSystemIn l y system × DoesStep (relation_constant_step system c (name_of t)) old result new
DoesMaking old l rs (Joined j p q) result new = DoesStep (relation_join_step (op_of (connective_view j)) (relation_at rs p) (relation_at rs q)) old result new
DoesMaking old l rs (Paired n ts r m us) result new =
    (v : WordValue) × (w : WordValue) × IsWordIn l n v × IsWordIn l m w × DoesStep (relation_pair_step (comparison_of (relation_view r)) (placed_at v ts.items) (placed_at w us.items)) old result new
DoesMaking old l rs (Complement p) result new = DoesStep (relation_complement_step (relation_at rs p)) old result new
DoesMaking old l rs (Projected t p) result new = DoesStep (relation_project_step (name_of t) (relation_at rs p)) old result new

-- whether it is made by a step
abbrev pub is_step_making : Making → Bool
is_step_making (Compared y r s t) = false
is_step_making (Added y s t u) = false
is_step_making (Number y t) = false
is_step_making (Called n ts) = false
is_step_making (Lettered n ts r b) = false
is_step_making (Renamed s t p) = false
is_step_making (Constant y c t) = true
is_step_making (Joined j p q) = true
is_step_making (Paired n ts r w us) = true
is_step_making (Complement p) = true
is_step_making (Projected t p) = true

-- marks with those of what it is made of
abbrev pub marked : List Bool → Making → List Bool
marked marks (Compared y r s t) = marks
marked marks (Added y s t u) = marks
marked marks (Number y t) = marks
marked marks (Called n ts) = marks
marked marks (Lettered n ts r b) = marks
marked marks (Renamed s t p) = slice_set marks p true
marked marks (Constant y c t) = marks
marked marks (Joined j p q) = slice_set (slice_set marks p true) q true
marked marks (Paired n ts r w us) = marks
marked marks (Complement p) = slice_set marks p true
marked marks (Projected t p) = slice_set marks p true

abbrev pub is_marked : List Bool → ℕ → Bool
is_marked marks i = slice_index_or marks i false

-- the relations are those that the first plans make, of the marked ones
abbrev pub AreMade : LibraryValue → List Plan → List Bool → List RelationValue → Type 0
AreMade l plans marks rs = (i : ℕ) → i < length rs → is_marked marks i ≡ true → Makes l (plan_at plans i) (relation_at rs i)

-- what it is made of is marked
abbrev pub AreMarked : List Bool → Making → Type 0
AreMarked marks (Compared y r s t) = ⊤
AreMarked marks (Added y s t u) = ⊤
AreMarked marks (Number y t) = ⊤
AreMarked marks (Called n ts) = ⊤
AreMarked marks (Lettered n ts r b) = ⊤
AreMarked marks (Renamed s t p) = is_marked marks p ≡ true
AreMarked marks (Constant y c t) = ⊤
AreMarked marks (Joined j p q) = (is_marked marks p ≡ true) × (is_marked marks q ≡ true)
AreMarked marks (Paired n ts r w us) = ⊤
AreMarked marks (Complement p) = is_marked marks p ≡ true
AreMarked marks (Projected t p) = is_marked marks p ≡ true

-- a part of the last plan or of a step
abbrev pub IsRooted : List Plan → ℕ → Plan → Type 0
IsRooted plans last p = IsPart p (plan_at plans last) ⊎ ((i : ℕ) × (i < length plans) × (is_step (plan_at plans i) ≡ true) × IsPart p (plan_at plans i))

-- the steps and the last plan are marked, with what marked ones are made of, and no others
pub record AreNeeded (plans : List Plan) (makings : List Making) (last : ℕ) (marks : List Bool) : Type 0 where
  pub count : length marks ≡ length plans
  pub last_is : is_marked marks last ≡ true
  pub steps : (i : ℕ) → i < length plans → is_step (plan_at plans i) ≡ true → is_marked marks i ≡ true
  pub parts : (i : ℕ) (m : Making) → i < length plans → m ≡ slice_index_or makings i m → is_marked marks i ≡ true → AreMarked marks m
  pub rooted : (i : ℕ) → i < length plans → is_marked marks i ≡ true → IsRooted plans last (plan_at plans i)
