-- The relation of the places at which the letters of two words compare: it is one, and holds of these places.
use Rattle.std.proofs.Common.{◌≡◌, ◌↔◌, ◌⊎◌, inl, inr, ℕ, ◌<◌, ℤ, List, [], ◌∷◌, ◌++◌, map, length, get_or, refl, sym, ap, ◌∙◌, subst, arith}
use Rattle.std.specs.List.{All, AllByRecursion, Contains}
use Rattle.std.proofs.lemmas.List.{get_or-map, length-append, length-map, map-append}
use Rattle.std.proofs.lemmas.List.Elements.{All-append, All-weaker, Contains-append_left, Contains-append_right}
use Rattle.std.proofs.lemmas.Simd.{map-map}
use Rattle.automaton_steps.specs.Laws.{HasOneOutcome}
use Rattle.automaton_steps.proofs.StepAnswers.{step_one}
use Rattle.digit_tuple.specs.Names.{AreDistinct, AreJoint, joint_names, place_of}
use Rattle.digit_tuple.proofs.JointNames.{AreJoint-joint_names}
use Rattle.product_op.proofs.SizeLemmas.{AreDistinct-ordered}
use Rattle.numeration.specs.Relations.{HoldsOf}
use Rattle.numeration.specs.Systems.{System}
use Rattle.num_system.specs.Sealed.{SystemValue, system_of, IsSealed}
use Rattle.num_system.specs.Tracks.{absent_system, ShareDirection, number_under, system_under, systems_of, direction_of}
use Rattle.num_system.proofs.HoldLemmas.{closed_from, holds_representation, representation_holds}
use Rattle.num_system.proofs.SealedLemmas.{are_systems}
use Rattle.num_system.specs.declared.comparison.Comparison.{Comparison}
use Rattle.number_relations.specs.Relations.{RelationValue, IsRelation, RelationHolds, named_of}
use Rattle.number_relations.proofs.PlacedLemmas.{all_under, picked_numbers, direction_under}
use Rattle.number_relations.proofs.StepOutcomes.{same_relation}
use Rattle.word_output.specs.LetterSets.{ComparesLetters}
use Rattle.word_output.specs.WordPairs.{MayPair}
use Rattle.word_output.specs.Words.{WordValue, IsWordValue, HasLetter}
use Rattle.plan_relations.specs.PairRelations.{both_under, both_systems, MayPairWords, pair_systems, IsRelationPair, relation_pair_step}
use Rattle.plan_relations.specs.PlacedWords.{PlacedWord, placed_letters}
use Rattle.plan_relations.proofs.AllLemmas.{all_both}
use Rattle.word_output.proofs.PairPlaces.{pairs}
use Rattle.word_output.proofs.StepOutcomes.{one_pair, pair_alike}

-- the direction of both is that of the first
direction_first : (xs ys : List SystemValue) → 0 < length xs → direction_of (xs ++ ys) ≡ direction_of xs
direction_first [] ys some = absurd (omega (arith, some))
direction_first (x ∷ xs) ys some = refl

-- the names of both lists are among the one after the other
pub joint_among : (first second names : List (List ℕ)) → AreJoint first second names → All (Contains (first ++ second)) names
joint_among first second names are = All-weaker (λ n. Contains first n ⊎ Contains second n) (Contains (first ++ second)) either names are.no_others
  where
    either : (n : List ℕ) → Contains first n ⊎ Contains second n → Contains (first ++ second) n
    either n (inl left) = Contains-append_left first second n left
    either n (inr right) = Contains-append_right first second n right

-- the numbers under some names, found again
numbers_again : (names : List (List ℕ)) (f : List ℕ → ℕ) (under : List (List ℕ)) → All (Contains names) under → map (number_under names (map f names)) under ≡ map f under
numbers_again names f under there = sym (map-map (λ (p : ℕ). get_or (map f names) p 0) (place_of names) under) ∙ picked_numbers names f under there

module _ (comparison : Comparison) (a b : PlacedWord) (is_a : IsWordValue a.word) (is_b : IsWordValue b.word) (may : MayPairWords a b) (c : RelationValue) (made : IsRelationPair comparison a b c) where
  abbrev joint : List (List ℕ)
  joint = joint_names a.under b.under

  abbrev under : List (List ℕ)
  under = both_under a b

  abbrev all : List SystemValue
  all = both_systems a b

  abbrev systems : List SystemValue
  systems = pair_systems a b

  are_joint : AreJoint a.under b.under joint
  are_joint = AreJoint-joint_names a.under b.under

  count : length under ≡ length all
  count = omega (arith, length-append a.under b.under, length-append a.word.systems b.word.systems, may.first_count, may.second_count)

  all_there : All (Contains joint) under
  all_there = All-append (Contains joint) a.under b.under are_joint.all_first are_joint.all_second

  no_others : All (Contains under) joint
  no_others = joint_among a.under b.under joint are_joint

  direction_is : direction_of systems ≡ direction_of a.word.systems
  direction_is = direction_under under joint all count may.shared_direction all_there no_others ∙ direction_first a.word.systems b.word.systems is_a.some

  sealed : AllByRecursion IsSealed systems
  sealed = all_under IsSealed under all count (all_both IsSealed a.word.systems b.word.systems is_a.sealed is_b.sealed) joint no_others

  shared_direction : ShareDirection systems
  shared_direction =
      subst (λ direction. AllByRecursion (λ (s : SystemValue). s.direction ≡ direction) systems) (sym (direction_under under joint all count may.shared_direction all_there no_others))
      (all_under (λ (s : SystemValue). s.direction ≡ direction_of all) under all count may.shared_direction joint no_others)

  -- both words have letters at the numbers that compare so
  abbrev HaveSuchLetters : List ℕ → List ℕ → Type 0
  HaveSuchLetters ns ms = (x : ℤ) × (y : ℤ) × HasLetter a.word ns x × HasLetter b.word ms y × ComparesLetters comparison x y

  abbrev Says : List ℕ → Type 0
  Says ns = HaveSuchLetters (map (number_under joint ns) a.under) (map (number_under joint ns) b.under)

  pair_holds : HoldsOf (direction_of c.systems) (systems_of c.systems) Says c.automaton
  pair_holds =
      subst (λ (ss : List SystemValue). HoldsOf (direction_of ss) (systems_of ss) Says c.automaton) (sym made.systems)
      (subst (λ direction. HoldsOf direction (systems_of systems) Says c.automaton) (sym direction_is)
      (pairs a.word b.word a.under b.under comparison (named_of c) is_a is_b may.first_count may.second_count may.agree may.shared_direction made.pair))

  long : length systems ≡ length joint
  long = length-map joint (system_under under all)

  count_c : length c.systems ≡ length c.names
  count_c = ap length made.systems ∙ long ∙ sym (ap length made.pair.names)

  sealed_c : AllByRecursion IsSealed c.systems
  sealed_c = subst (λ (ss : List SystemValue). AllByRecursion IsSealed ss) (sym made.systems) sealed

  pub pair_is : IsRelation c
  pair_is = record {
    tracked = record {
      count = sym count_c ∙ sym (length-map c.systems system_of) ∙ sym (length-map (systems_of c.systems) (λ (s : System). s.digits)) ∙ sym (ap length pair_holds.sizes);
      distinct = subst AreDistinct (sym made.pair.names) (AreDistinct-ordered joint are_joint.ordered);
      canonical = made.pair.canonical;
    };
    count = count_c;
    sealed = sealed_c;
    shared_direction = subst ShareDirection (sym made.systems) shared_direction;
    closed = closed_from (direction_of c.systems) (systems_of c.systems) Says c.automaton pair_holds;
  }

  -- the numbers under the names of both
  to_names : (f : List ℕ → ℕ) → Says (map f joint) → HaveSuchLetters (map f a.under) (map f b.under)
  to_names f said =
      subst (λ (ns : List ℕ). HaveSuchLetters ns (map f b.under)) (numbers_again joint f a.under are_joint.all_first)
      (subst (HaveSuchLetters (map (number_under joint (map f joint)) a.under)) (numbers_again joint f b.under are_joint.all_second) said)

  from_names : (f : List ℕ → ℕ) → HaveSuchLetters (map f a.under) (map f b.under) → Says (map f joint)
  from_names f letters =
      subst (λ (ns : List ℕ). HaveSuchLetters ns (map (number_under joint (map f joint)) b.under)) (sym (numbers_again joint f a.under are_joint.all_first))
      (subst (HaveSuchLetters (map f a.under)) (sym (numbers_again joint f b.under are_joint.all_second)) letters)

  pub pair_named : (f : List ℕ → ℕ) → RelationHolds c (map f c.names) ↔ HaveSuchLetters (map f a.under) (map f b.under)
  pair_named f = (forth, back)
    where
      same : map f joint ≡ map f c.names
      same = ap (map f) (sym made.pair.names)

      forth : RelationHolds c (map f c.names) → HaveSuchLetters (map f a.under) (map f b.under)
      forth holds =
          to_names f (subst Says (sym same) (representation_holds (direction_of c.systems) (systems_of c.systems) Says c.automaton pair_holds (map f c.names) holds))

      back : HaveSuchLetters (map f a.under) (map f b.under) → RelationHolds c (map f c.names)
      back letters =
          holds_representation (direction_of c.systems) (systems_of c.systems) Says c.automaton pair_holds (are_systems c.systems sealed_c) (map f c.names)
          (length-map c.names f ∙ sym (length-map c.systems system_of ∙ count_c)) (subst Says same (from_names f letters))

-- a word's letters have the digits of its systems
abbrev digits_of : SystemValue → ℕ
digits_of s = s.digits

sizes_are : (w : WordValue) → IsWordValue w → w.function.automaton.sizes ≡ map digits_of w.systems
sizes_are w is = is.sizes ∙ map-map (λ (s : System). s.digits) system_of w.systems

-- so the step may be made
pub may_pair : (a b : PlacedWord) → IsWordValue a.word → IsWordValue b.word → MayPairWords a b → MayPair (placed_letters a) (placed_letters b)
may_pair a b is_a is_b may = record {
  first = is_a.function;
  second = is_b.function;
  first_names = may.first_count ∙ sym (ap length (sizes_are a.word is_a) ∙ length-map a.word.systems digits_of);
  second_names = may.second_count ∙ sym (ap length (sizes_are b.word is_b) ∙ length-map b.word.systems digits_of);
  agree = λ i j within inside same. at i within ∙ ap digits_of (may.agree i j within inside same) ∙ sym (at j inside);
}
  where
    sizes : List ℕ
    sizes = a.word.function.automaton.sizes ++ b.word.function.automaton.sizes

    all_sizes : sizes ≡ map digits_of (both_systems a b)
    all_sizes =
        ap (λ (ns : List ℕ). ns ++ b.word.function.automaton.sizes) (sizes_are a.word is_a) ∙ ap (λ (ns : List ℕ). map digits_of a.word.systems ++ ns) (sizes_are b.word is_b)
        ∙ sym (map-append digits_of a.word.systems b.word.systems)

    at : (i : ℕ) → i < length (both_under a b) → get_or sizes i 0 ≡ digits_of (get_or (both_systems a b) i absent_system)
    at i within =
        ap (λ (ns : List ℕ). get_or ns i 0) all_sizes
        ∙ get_or-map digits_of (both_systems a b) i absent_system 0
        (omega (arith, within, length-append a.under b.under, length-append a.word.systems b.word.systems, may.first_count, may.second_count))

-- a pair makes one relation
pub one_relation_pair : (comparison : Comparison) (a b : PlacedWord) (c d : RelationValue) → IsRelationPair comparison a b c → IsRelationPair comparison a b d → c ≡ d
one_relation_pair comparison a b c d first second =
    same_relation c d (one_pair comparison (placed_letters a) (placed_letters b) (named_of c) (named_of d) first.pair second.pair) (first.systems ∙ sym second.systems)

-- and its step has one answer
pub pair_one : (comparison : Comparison) (a b : PlacedWord) → HasOneOutcome (relation_pair_step comparison a b)
pair_one comparison a b = step_one (relation_pair_step comparison a b) (pair_alike (placed_letters a) (placed_letters b)) (one_relation_pair comparison a b)
