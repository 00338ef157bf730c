-- A plan makes one relation.
use Rattle.std.proofs.Common.{◌≡◌, ℕ, Bool, true, false, List, [], ◌∷◌, length, map, Some, refl, sym, ap, ◌∙◌, subst, ◌↔◌, arith, if◌then◌else◌}
use Rattle.std.specs.List.{AllByRecursion}
use Rattle.std.specs.Str.{bytes_eq}
use Rattle.std.proofs.lemmas.Option.{none-some, same_Some}
use Rattle.digit_tuple.specs.Deterministic.{Automaton}
use Rattle.automaton_steps.proofs.OneResults.{one_join, one_on_tracks, one_projection}
use Rattle.validity.specs.ValidParts.{in_complement}
use Rattle.num_system.specs.Sealed.{SystemValue, IsSealed}
use Rattle.num_system.specs.Tracks.{direction_of, languages_of}
use Rattle.number_relations.specs.Relations.{RelationValue, RelationHolds, named_of}
use Rattle.number_relations.specs.Placed.{IsPlaced, changed_names}
use Rattle.number_relations.specs.Comparisons.{IsComparison, IsSumRelation, IsAnyNumber}
use Rattle.number_relations.specs.Constants.{IsRelationConstant}
use Rattle.number_relations.specs.Joins.{joint_systems, IsRelationJoin}
use Rattle.number_relations.specs.Complements.{IsRelationComplement}
use Rattle.number_relations.specs.Projections.{IsRelationProjection}
use Rattle.number_relations.proofs.ConstantRelations.{constant_is, constant_holds}
use Rattle.number_relations.proofs.LawLemmas.{one_placed, one_comparison, one_sum, one_number}
use Rattle.number_relations.proofs.RelationLemmas.{tuples_determine}
use Rattle.number_relations.proofs.StepOutcomes.{same_relation}
use Rattle.word_output.specs.LetterSets.{IsLetterSet}
use Rattle.word_output.specs.Words.{WordValue, IsWordValue}
use Rattle.term_plans.specs.Plans.{Plan, compared, added, number, called, lettered, renamed, constant, joined, paired, complement, projected}
use Rattle.plan_relations.specs.TrackNames.{track_name}
use Rattle.plan_relations.specs.Libraries.{LibraryValue, NamedWord, IsLibrary, IsSystemIn, IsWordIn, word_named}
use Rattle.named_systems.specs.NamedSystems.{NamedSystem, system_named}
use Rattle.plan_relations.specs.Makings.{Makes, comparison_of, op_of, placed_on}
use Rattle.plan_relations.specs.PairRelations.{IsRelationPair}
use Rattle.plan_relations.specs.Laws.{OneMade}
use Rattle.plan_relations.proofs.PairRelationLemmas.{one_relation_pair}
use Rattle.word_output.proofs.PlaceLaws.{one_set}

sealed_in : (ss : List NamedSystem) (name : List ℕ) (s : SystemValue) → AllByRecursion (λ (n : NamedSystem). IsSealed n.system) ss → system_named ss name ≡ Some s → IsSealed s
sealed_in [] name s all is = absurd (none-some s is)
sealed_in (n ∷ ss) name s all is = by (bytes_eq n.name name) refl (sealed_in ss name s all.1)
  where
    by : (b : Bool) → bytes_eq n.name name ≡ b → (system_named ss name ≡ Some s → IsSealed s) → IsSealed s
    by true same rest = subst IsSealed (same_Some n.system s (sym (ap (λ c. if c then Some n.system else system_named ss name) same) ∙ is)) all.0
    by false apart rest = rest (sym (ap (λ c. if c then Some n.system else system_named ss name) apart) ∙ is)

-- each system of a library is sealed
pub system_sealed : (l : LibraryValue) (name : List ℕ) (s : SystemValue) → IsLibrary l → IsSystemIn l name s → IsSealed s
system_sealed l name s library is = sealed_in l.systems name s library.systems is

word_there : (ws : List NamedWord) (name : List ℕ) (w : WordValue) → AllByRecursion (λ (n : NamedWord). IsWordValue n.word) ws → word_named ws name ≡ Some w → IsWordValue w
word_there [] name w all is = absurd (none-some w is)
word_there (n ∷ ws) name w all is = by (bytes_eq n.name name) refl (word_there ws name w all.1)
  where
    by : (b : Bool) → bytes_eq n.name name ≡ b → (word_named ws name ≡ Some w → IsWordValue w) → IsWordValue w
    by true same rest = subst IsWordValue (same_Some n.word w (sym (ap (λ c. if c then Some n.word else word_named ws name) same) ∙ is)) all.0
    by false apart rest = rest (sym (ap (λ c. if c then Some n.word else word_named ws name) apart) ∙ is)

-- and each word a word
pub word_is : (l : LibraryValue) (name : List ℕ) (w : WordValue) → IsLibrary l → IsWordIn l name w → IsWordValue w
word_is l name w library is = word_there l.words name w library.words is

-- a name means one word
pub one_word : (l : LibraryValue) (name : List ℕ) (v w : WordValue) → IsWordIn l name v → IsWordIn l name w → w ≡ v
one_word l name v w first second = same_Some w v (sym second ∙ first)

-- and for one system
pub one_system : (l : LibraryValue) (name : List ℕ) (s t : SystemValue) → IsSystemIn l name s → IsSystemIn l name t → t ≡ s
one_system l name s t first second = same_Some t s (sym second ∙ first)

-- two relations that hold of one number alone are the same
one_constant : (system : SystemValue) (n : ℕ) (name : List ℕ) (c d : RelationValue) → IsSealed system → IsRelationConstant system n name c → IsRelationConstant system n name d → c ≡ d
one_constant system n name c d sealed first second =
    tuples_determine c d (constant_is system n name c sealed first) (constant_is system n name d sealed second) (first.names ∙ sym second.names) (first.systems ∙ sym second.systems) same
  where
    same : (ns : List ℕ) → length ns ≡ length c.names → RelationHolds c ns ↔ RelationHolds d ns
    same [] count = absurd (omega (arith, count, ap length first.names))
    same (m ∷ []) count =
        let here = constant_holds system n name c sealed first m in
        let there = constant_holds system n name d sealed second m in
        (λ h. there.1 (here.0 h), λ h. here.1 (there.0 h))
    same (m ∷ k ∷ ns) count = absurd (omega (arith, count, ap length first.names))

pub made_once : (l : LibraryValue) (p : Plan) (c d : RelationValue) → IsLibrary l → Makes l p c → Makes l p d → c ≡ d
made_once l (compared y r s t) c d library (u, is, first) (v, also, second) =
    one_comparison u (comparison_of r) (track_name s) (track_name t) c d first
    (subst (λ (w : SystemValue). IsComparison w (comparison_of r) (track_name s) (track_name t) d) (one_system l y u v is also) second)
made_once l (added y s t u) c d library (v, is, first) (w, also, second) =
    one_sum v (track_name s) (track_name t) (track_name u) c d first
    (subst (λ (x : SystemValue). IsSumRelation x (track_name s) (track_name t) (track_name u) d) (one_system l y v w is also) second)
made_once l (number y t) c d library (u, is, first) (v, also, second) =
    one_number u (track_name t) c d first (subst (λ (w : SystemValue). IsAnyNumber w (track_name t) d) (one_system l y u v is also) second)
made_once l (called n ts) c d library (q, is, first) (r, also, second) =
    let same : r ≡ q = same_Some r q (sym also ∙ is) in
    let under : List (List ℕ) = map track_name ts in
    one_placed q.automaton q.systems under c d first (subst (λ (w : RelationValue). IsPlaced w.automaton w.systems under d) same second)
made_once l (lettered n ts r b) c d library (v, is, (a, set, first)) (w, also, (e, other, second)) =
    let same : w ≡ v = one_word l n v w is also in
    let under : List (List ℕ) = map track_name ts in
    let automata : e ≡ a = one_set (comparison_of r) b v.function e a (subst (λ (x : WordValue). IsLetterSet (comparison_of r) b x.function e) same other) set in
    let again : IsPlaced e v.systems under d = subst (λ (x : WordValue). IsPlaced e x.systems under d) same second in
    one_placed a v.systems under c d first (subst (λ (x : Automaton). IsPlaced x v.systems under d) automata again)
made_once l (renamed s t p) c d library (a, is, first) (b, also, second) =
    let same : b ≡ a = made_once l p b a library also is in
    one_placed a.automaton a.systems (changed_names (track_name s) (track_name t) a.names) c d first
    (subst (λ (w : RelationValue). IsPlaced w.automaton w.systems (changed_names (track_name s) (track_name t) w.names) d) same second)
made_once l (constant y k t) c d library (u, is, first) (v, also, second) =
    one_constant u k (track_name t) c d (system_sealed l y u library is) first (subst (λ (w : SystemValue). IsRelationConstant w k (track_name t) d) (one_system l y u v is also) second)
made_once l (joined j p q) c d library (a, b, is_a, is_b, first) (e, f, is_e, is_f, second) =
    let left : e ≡ a = made_once l p e a library is_e is_a in
    let right : f ≡ b = made_once l q f b library is_f is_b in
    let again = subst (λ (w : RelationValue). IsRelationJoin (op_of j) w b d) left (subst (λ (w : RelationValue). IsRelationJoin (op_of j) e w d) right second) in
    same_relation c d (one_join (op_of j) (languages_of (joint_systems a b)) (named_of a) (named_of b) (named_of c) (named_of d) first.join again.join) (first.systems ∙ sym again.systems)
made_once l (paired n ts r m us) c d library (v, w, is_v, is_w, first) (x, y, is_x, is_y, second) =
    let left : x ≡ v = one_word l n v x is_v is_x in
    let right : y ≡ w = one_word l m w y is_w is_y in
    one_relation_pair (comparison_of r) (placed_on v ts) (placed_on w us) c d first
    (subst (λ (z : WordValue). IsRelationPair (comparison_of r) (placed_on z ts) (placed_on w us) d) left
    (subst (λ (z : WordValue). IsRelationPair (comparison_of r) (placed_on x ts) (placed_on z us) d) right second))
made_once l (complement p) c d library (a, is, first) (b, also, second) =
    let again = subst (λ (w : RelationValue). IsRelationComplement w d) (made_once l p b a library also is) second in
    same_relation c d (one_on_tracks (named_of a) (in_complement (named_of a) (languages_of a.systems)) (named_of c) (named_of d) first.complement again.complement) (first.systems ∙ sym again.systems)
made_once l (projected t p) c d library (a, is, first) (b, also, second) =
    let again = subst (λ (w : RelationValue). IsRelationProjection (track_name t) w d) (made_once l p b a library also is) second in
    same_relation c d (one_projection (direction_of a.systems) (track_name t) (named_of a) (named_of c) (named_of d) first.projection again.projection) (first.systems ∙ sym again.systems)

pub one_made : OneMade
one_made l p c d library first second = made_once l p c d library first second
