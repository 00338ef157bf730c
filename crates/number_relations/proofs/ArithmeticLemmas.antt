-- Comparisons, sums and numbers under names, by what automata over one system hold of.
use Rattle.std.proofs.Common.{◌≡◌, ℕ, ◌+◌, ◌<◌, ◌≤◌, List, [], ◌∷◌, map, length, inl, inr, refl, sym, ap, ◌∙◌, subst, ◌↔◌, arith}
use Rattle.std.proofs.lemmas.Bool.{cases_lt}
use Rattle.std.specs.Bool.{⊤}
use Rattle.digit_tuple.specs.Deterministic.{Automaton}
use Rattle.numeration.specs.Relations.{HoldsOf, IsEqual, IsLess, IsSum}
use Rattle.num_system.specs.Sealed.{SystemValue, system_of, IsSealed}
use Rattle.number_relations.specs.Relations.{RelationValue, HoldsOver, IsClosedOver}
use Rattle.number_relations.specs.Placed.{each_once}
use Rattle.number_relations.specs.Comparisons.{Compares, IsAnyNumber, IsComparison, IsOverOne, IsSumRelation, compared_names}
use Rattle.num_system.specs.declared.comparison.Comparison.{Comparison}
use Rattle.num_system.specs.declared.comparison.Comparison.TheVariants.{Equal, Unequal, Less, Greater, AtMost, AtLeast}
use Rattle.num_system.proofs.HoldLemmas.{closed_from, holds_representation, representation_holds}
use Rattle.number_relations.proofs.PairLemmas.{language_holds, numbers_are, pairs_hold, repeated, repeated_two, sums_are}
use Rattle.number_relations.proofs.RelationLemmas.{same_relation}

-- what is reported of numbers by an automaton under some names
abbrev pub Holds : SystemValue → List (List ℕ) → Automaton → (List ℕ → ℕ) → Type 0
Holds s names d number_of = HoldsOver (repeated s names) d (map number_of names)

-- or outside it
abbrev pub Fails : SystemValue → List (List ℕ) → Automaton → (List ℕ → ℕ) → Type 0
Fails s names d number_of = ¬ HoldsOver (s ∷ s ∷ []) d (map number_of names)

module _ (s : SystemValue) (is : IsSealed s) (first second : List ℕ) (r : RelationValue) where
  abbrev IsUnder : List (List ℕ) → ((List ℕ → ℕ) → Type 0) → Type 0
  IsUnder names holds = IsOverOne s names holds r

  -- the names in place of the comparison's
  under : (k : Comparison) (names : List (List ℕ)) (P : List (List ℕ) → (List ℕ → ℕ) → Type 0) → names ≡ compared_names k first second → IsUnder names (P names) → IsUnder (compared_names k first second) (P (compared_names k first second))
  under k names P same over = subst (λ (ns : List (List ℕ)). IsUnder ns (P ns)) same over

  -- determined by what is true of two numbers
  compared : (k : Comparison) (P : (List ℕ → ℕ) → Type 0) → ((a : List ℕ → ℕ) → P a ↔ Compares k (a first) (a second)) → IsUnder (compared_names k first second) P → IsComparison s k first second r
  compared k P same over = same_relation (each_once (compared_names k first second)) (map (λ name. s) (each_once (compared_names k first second))) P (λ a. Compares k (a first) (a second)) same r over

  pub equal_compared : (names : List (List ℕ)) → names ≡ compared_names Equal first second → IsUnder names (Holds s names s.equal) → IsComparison s Equal first second r
  equal_compared names same over =
      compared Equal (Holds s (first ∷ second ∷ []) s.equal) (λ a. pairs_hold s is (λ x y. x ≡ y) s.equal is.relations.equality (a first) (a second)) (under Equal names (λ ns. Holds s ns s.equal) same over)

  pub less_compared : (names : List (List ℕ)) → names ≡ compared_names Less first second → IsUnder names (Holds s names s.less) → IsComparison s Less first second r
  less_compared names same over =
      compared Less (Holds s (first ∷ second ∷ []) s.less) (λ a. pairs_hold s is (λ x y. x < y) s.less is.relations.order (a first) (a second)) (under Less names (λ ns. Holds s ns s.less) same over)

  pub greater_compared : (names : List (List ℕ)) → names ≡ compared_names Greater first second → IsUnder names (Holds s names s.less) → IsComparison s Greater first second r
  greater_compared names same over =
      compared Greater (Holds s (second ∷ first ∷ []) s.less) (λ a. pairs_hold s is (λ x y. x < y) s.less is.relations.order (a second) (a first)) (under Greater names (λ ns. Holds s ns s.less) same over)

  pub unequal_compared : (names : List (List ℕ)) → names ≡ compared_names Unequal first second → IsUnder names (Fails s names s.equal) → IsComparison s Unequal first second r
  unequal_compared names same over =
      compared Unequal (Fails s (first ∷ second ∷ []) s.equal) (λ a. (
        λ fails equal. fails ((pairs_hold s is (λ x y. x ≡ y) s.equal is.relations.equality (a first) (a second)).1 equal),
        λ differ holds. differ ((pairs_hold s is (λ x y. x ≡ y) s.equal is.relations.equality (a first) (a second)).0 holds),
      )) (under Unequal names (λ ns. Fails s ns s.equal) same over)

  -- outside the order the second number is at most the first
  not_less : (a b : ℕ) → (HoldsOver (s ∷ s ∷ []) s.less (a ∷ b ∷ []) → ⊥) ↔ (b ≤ a)
  not_less a b = (there, back)
    where
      there : (HoldsOver (s ∷ s ∷ []) s.less (a ∷ b ∷ []) → ⊥) → b ≤ a
      there fails = elim (cases_lt a b) [
        | inl less ↦ absurd (fails ((pairs_hold s is (λ x y. x < y) s.less is.relations.order a b).1 less))
        | inr least ↦ least
      ]

      back : b ≤ a → HoldsOver (s ∷ s ∷ []) s.less (a ∷ b ∷ []) → ⊥
      back least holds = let less : a < b = (pairs_hold s is (λ x y. x < y) s.less is.relations.order a b).0 holds in omega (arith, least, less)

  pub at_most_compared : (names : List (List ℕ)) → names ≡ compared_names AtMost first second → IsUnder names (Fails s names s.less) → IsComparison s AtMost first second r
  at_most_compared names same over = compared AtMost (Fails s (second ∷ first ∷ []) s.less) (λ a. not_less (a second) (a first)) (under AtMost names (λ ns. Fails s ns s.less) same over)

  pub at_least_compared : (names : List (List ℕ)) → names ≡ compared_names AtLeast first second → IsUnder names (Fails s names s.less) → IsComparison s AtLeast first second r
  at_least_compared names same over = compared AtLeast (Fails s (first ∷ second ∷ []) s.less) (λ a. not_less (a first) (a second)) (under AtLeast names (λ ns. Fails s ns s.less) same over)

module _ (s : SystemValue) (is : IsSealed s) (r : RelationValue) where
  pub sum_holds : (x y z : List ℕ) (names : List (List ℕ)) → names ≡ x ∷ y ∷ z ∷ [] → IsOverOne s names (Holds s names s.adder) r → IsSumRelation s x y z r
  sum_holds x y z names same over =
      let names' : List (List ℕ) = x ∷ y ∷ z ∷ [] in
      same_relation (each_once names') (map (λ name. s) (each_once names')) (Holds s names' s.adder) (λ a. a x + a y ≡ a z) (λ a. sums_are s is s.adder is.adder (a x) (a y) (a z)) r
      (subst (λ (ns : List (List ℕ)). IsOverOne s ns (Holds s ns s.adder) r) same over)

  pub number_holds : (x : List ℕ) (names : List (List ℕ)) → names ≡ x ∷ [] → IsOverOne s names (Holds s names s.language) r → IsAnyNumber s x r
  number_holds x names same over =
      same_relation (x ∷ []) (s ∷ []) (Holds s (x ∷ []) s.language) (λ a. ⊤) (λ a. (λ some. tt, λ any. numbers_are s is s.language is.language (a x))) r
      (subst (λ (ns : List (List ℕ)). IsOverOne s ns (Holds s ns s.language) r) same over)

-- pairs outside an automaton, under two names
pub outside_placed : (s : SystemValue) → IsSealed s → (d e : Automaton) (names : List (List ℕ)) (r : RelationValue) → length names ≡ 2
    → HoldsOf s.direction (system_of s ∷ system_of s ∷ []) (λ ns. ¬ HoldsOver (s ∷ s ∷ []) d ns) e → IsOverOne s names (Holds s names e) r → IsOverOne s names (Fails s names d) r
outside_placed s is d e [] r two outside over = absurd (omega (arith, two))
outside_placed s is d e (x ∷ []) r two outside over = absurd (omega (arith, two))
outside_placed s is d e (x ∷ y ∷ z ∷ names) r two outside over = absurd (omega (arith, two))
outside_placed s is d e (x ∷ y ∷ []) r two outside over =
    let ns : List (List ℕ) = each_once (x ∷ y ∷ []) in
    same_relation ns (map (λ name. s) ns) (Holds s (x ∷ y ∷ []) e) (Fails s (x ∷ y ∷ []) d) (λ a. (
      representation_holds s.direction (system_of s ∷ system_of s ∷ []) (λ ms. ¬ HoldsOver (s ∷ s ∷ []) d ms) e outside (a x ∷ a y ∷ []),
      holds_representation s.direction (system_of s ∷ system_of s ∷ []) (λ ms. ¬ HoldsOver (s ∷ s ∷ []) d ms) e outside (is.laws, (is.laws, tt)) (a x ∷ a y ∷ []) refl,
    )) r over

-- two names
pub compared_two : (k : Comparison) (first second : List ℕ) → length (compared_names k first second) ≡ 2
compared_two Equal first second = refl
compared_two Unequal first second = refl
compared_two Less first second = refl
compared_two Greater first second = refl
compared_two AtMost first second = refl
compared_two AtLeast first second = refl

module _ (s : SystemValue) (is : IsSealed s) where
  -- the equality and the order hold of the pairs of which they accept a representation
  pub equal_closed : (d : Automaton) → d ≡ s.equal → IsClosedOver (s ∷ s ∷ []) d
  equal_closed d same = subst (IsClosedOver (s ∷ s ∷ [])) (sym same) (closed_from s.direction (system_of s ∷ system_of s ∷ []) IsEqual s.equal is.relations.equality)

  pub less_closed : (d : Automaton) → d ≡ s.less → IsClosedOver (s ∷ s ∷ []) d
  less_closed d same = subst (IsClosedOver (s ∷ s ∷ [])) (sym same) (closed_from s.direction (system_of s ∷ system_of s ∷ []) IsLess s.less is.relations.order)

  pub adder_closed : (d : Automaton) (names : List (List ℕ)) (x y z : List ℕ) → d ≡ s.adder → names ≡ x ∷ y ∷ z ∷ [] → IsClosedOver (repeated s names) d
  adder_closed d names x y z same three =
      subst (λ (ns : List (List ℕ)). IsClosedOver (repeated s ns) d) (sym three)
      (subst (IsClosedOver (s ∷ s ∷ s ∷ [])) (sym same) (closed_from s.direction (system_of s ∷ system_of s ∷ system_of s ∷ []) IsSum s.adder is.adder))

  pub language_closed : (d : Automaton) (names : List (List ℕ)) (x : List ℕ) → d ≡ s.language → names ≡ x ∷ [] → IsClosedOver (repeated s names) d
  language_closed d names x same one =
      subst (λ (ns : List (List ℕ)). IsClosedOver (repeated s ns) d) (sym one)
      (subst (IsClosedOver (s ∷ [])) (sym same) (closed_from s.direction (system_of s ∷ []) (λ ns. ⊤) s.language (language_holds s is s.language is.language)))

-- under two names
pub two_closed : (s : SystemValue) (k : Comparison) (first second : List ℕ) (under : List (List ℕ)) (d : Automaton) → under ≡ compared_names k first second → IsClosedOver (s ∷ s ∷ []) d → IsClosedOver (repeated s under) d
two_closed s k first second under d same closed =
    subst (λ (ss : List SystemValue). IsClosedOver ss d) (sym (repeated_two s under (ap length same ∙ compared_two k first second))) closed

-- what an automaton under the names says, by what the one that it is does
pub arm : (s : SystemValue) (k j : Comparison) (first second : List ℕ) (r : RelationValue) (under : List (List ℕ)) (P : Automaton → List (List ℕ) → (List ℕ → ℕ) → Type 0) (d e : Automaton)
    → k ≡ j → under ≡ compared_names k first second → d ≡ e
    → ((names : List (List ℕ)) → names ≡ compared_names j first second → IsOverOne s names (P e names) r → IsComparison s j first second r)
    → IsOverOne s under (P d under) r → IsComparison s k first second r
arm s k j first second r under P d e which same automaton compared over =
    subst (λ (m : Comparison). IsComparison s m first second r) (sym which)
    (compared under (same ∙ ap (λ (m : Comparison). compared_names m first second) which) (subst (λ (x : Automaton). IsOverOne s under (P x under) r) automaton over))
