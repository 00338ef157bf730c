-- What the steps of the successor by sums hold of.
use Rattle.std.proofs.Common.{◌≡◌, ℕ, zero, suc, ◌+◌, ◌<◌, List, [], ◌∷◌, get_or, length, inl, inr, refl, ap, sym, ◌∙◌, subst, arith, ◌↔◌}
use Rattle.std.specs.List.{All, Contains}
use Rattle.std.proofs.lemmas.Bool.{false≢true, cases_lt}
use Rattle.digit_tuple.specs.Parts.{picked}
use Rattle.digit_tuple.specs.Deterministic.{Automaton}
use Rattle.digit_tuple.specs.declared.direction.Direction.{Direction}
use Rattle.minimise.specs.Tracked.{NamedAutomaton}
use Rattle.product_op.specs.declared.op.Op.TheVariants.{And, AndNot}
use Rattle.numeration.specs.Systems.{System, IsSystem}
use Rattle.numeration.specs.Relations.{HoldsOf, IsLess, IsSum, IsZero, IsOrderOf, IsAdderOf, IsZeroOf}
use Rattle.numeration.specs.SomeTracks.{completed}
use Rattle.num_system.specs.Joined.{joined}
use Rattle.num_system.specs.Operations.{IsProduct, IsProjection}
use Rattle.num_system.specs.Successor.{IsNext, IsSuccessorOf}
use Rattle.num_system.specs.SuccessorSteps.{name_u, name_x, name_y, order_on}
use Rattle.num_system.specs.SuccessorSums.{IsPositive, IsAboveOne, IsOne, IsBothForSome, on_u, sum_on}
use Rattle.num_system.proofs.NamedLinks.{in_product_holds}
use Rattle.num_system.proofs.NamedProjections.{named_projection_holds}
use Rattle.num_system.proofs.SuccessorLemmas.{holds_same, less_first, under_names}
use Rattle.num_system.proofs.SuccessorSumTracks.{above_sizes, one_sizes, sum_sizes}

-- the number is above some number of which the relation holds
abbrev IsAboveSome : (List ℕ → Type 0) → List ℕ → Type 0
IsAboveSome P ns = (n : ℕ) × (m : ℕ) × (ns ≡ n ∷ []) × (m < n) × P (m ∷ [])

-- two numbers in order, and the relation holds of the first
abbrev IsLessFrom : (List ℕ → Type 0) → List ℕ → Type 0
IsLessFrom P = joined And (0 ∷ 1 ∷ []) IsLess (0 ∷ []) P

above_from : (P : List ℕ → Type 0) (ms ns : List ℕ) → length ms ≡ 2 → picked (1 ∷ []) ms ≡ ns → IsLessFrom P ms → IsAboveSome P ns
above_from P [] ns long picks is = absurd (omega (arith, long))
above_from P (m ∷ []) ns long picks is = absurd (omega (arith, long))
above_from P (m ∷ n ∷ []) ns long picks is = (n, m, sym picks, less_first m n is.0, is.1)
above_from P (m ∷ n ∷ k ∷ ms) ns long picks is = absurd (omega (arith, long))

completed_above : (s : System) (P : List ℕ → Type 0) (ns : List ℕ) → length ns ≡ 1 → completed (s ∷ s ∷ []) (1 ∷ []) (IsLessFrom P) ns ↔ IsAboveSome P ns
completed_above s P ns long = (
  (λ found. above_from P found.0 ns found.1 found.2 found.3),
  (λ is. (is.1 ∷ is.0 ∷ [], refl, sym is.2, ((is.1, is.0, refl, is.3), is.4))),
)

-- the numbers above 0 are the positive ones
above_zero : (ns : List ℕ) → length ns ≡ 1 → IsAboveSome IsZero ns ↔ IsPositive ns
above_zero ns long = ((λ is. (is.0, is.2, omega (arith, is.3))), (λ is. (is.0, 0, is.1, is.2, refl)))

-- and those above a positive one are above 1
above_positive : (ns : List ℕ) → length ns ≡ 1 → IsAboveSome IsPositive ns ↔ IsAboveOne ns
above_positive ns long = (there, (λ is. (is.0, 1, is.1, is.2, (1, refl, omega arith))))
  where
    there : IsAboveSome IsPositive ns → IsAboveOne ns
    there is =
        let same : is.1 ≡ is.4.0 = ap (λ (ks : List ℕ). get_or ks 0 0) is.4.1 in
        (is.0, is.2, omega (arith, is.3, same, is.4.2))

-- 1 is positive and not above 1
abbrev IsOnlyPositive : List ℕ → Type 0
IsOnlyPositive ns = joined AndNot (0 ∷ []) IsPositive (0 ∷ []) IsAboveOne ns

only_one : (n : ℕ) → IsOnlyPositive (n ∷ []) ↔ IsOne (n ∷ [])
only_one n = (there, back)
  where
    there : IsOnlyPositive (n ∷ []) → IsOne (n ∷ [])
    there is =
        let same : n ≡ is.0.0 = ap (λ (ks : List ℕ). get_or ks 0 0) is.0.1 in
        elim (cases_lt 1 n) [
          | inl more ↦ absurd (is.1 (n, refl, more))
          | inr near ↦ (let one : n ≡ 1 = omega (arith, same, is.0.2, near) in ap (λ k. k ∷ []) one)
        ]

    back : IsOne (n ∷ []) → IsOnlyPositive (n ∷ [])
    back is =
        let one : n ≡ 1 = ap (λ (ks : List ℕ). get_or ks 0 0) is in
        ((n, refl, omega (arith, one)), λ more. let same : n ≡ more.0 = ap (λ (ks : List ℕ). get_or ks 0 0) more.1 in omega (arith, one, same, more.2))

only_is_one : (ns : List ℕ) → length ns ≡ 1 → IsOnlyPositive ns ↔ IsOne ns
only_is_one [] long = absurd (omega (arith, long))
only_is_one (n ∷ []) long = only_one n
only_is_one (n ∷ k ∷ ns) long = absurd (omega (arith, long))

-- the third number is the sum of the second and the first, which is 1
abbrev IsSumWithOne : List ℕ → Type 0
IsSumWithOne = joined And (1 ∷ 0 ∷ 2 ∷ []) IsSum (0 ∷ []) IsOne

next_from : (ms ns : List ℕ) → length ms ≡ 3 → picked (1 ∷ 2 ∷ []) ms ≡ ns → IsSumWithOne ms → IsNext ns
next_from [] ns long picks is = absurd (omega (arith, long))
next_from (u ∷ []) ns long picks is = absurd (omega (arith, long))
next_from (u ∷ x ∷ []) ns long picks is = absurd (omega (arith, long))
next_from (u ∷ x ∷ y ∷ []) ns long picks is =
    let one : u ≡ 1 = ap (λ (ks : List ℕ). get_or ks 0 0) is.1 in
    let first : x ≡ is.0.0 = ap (λ (ks : List ℕ). get_or ks 0 0) is.0.2 in
    let second : u ≡ is.0.1 = ap (λ (ks : List ℕ). get_or ks 1 0) is.0.2 in
    let third : y ≡ is.0.0 + is.0.1 = ap (λ (ks : List ℕ). get_or ks 2 0) is.0.2 in
    let next : y ≡ suc x = omega (arith, one, first, second, third) in
    (x, sym picks ∙ ap (λ n. x ∷ n ∷ []) next)
next_from (u ∷ x ∷ y ∷ z ∷ ms) ns long picks is = absurd (omega (arith, long))

completed_next : (s : System) (ns : List ℕ) → length ns ≡ 2 → completed (s ∷ s ∷ s ∷ []) (1 ∷ 2 ∷ []) IsSumWithOne ns ↔ IsNext ns
completed_next s ns long = ((λ found. next_from found.0 ns found.1 found.2 found.3), back)
  where
    back : IsNext ns → completed (s ∷ s ∷ s ∷ []) (1 ∷ 2 ∷ []) IsSumWithOne ns
    back is =
        let next : suc is.0 ≡ is.0 + 1 = omega arith in
        (1 ∷ is.0 ∷ suc is.0 ∷ [], refl, sym is.1, ((is.0, 1, ap (λ n. is.0 ∷ 1 ∷ n ∷ []) next), refl))

module _ (direction : Direction) (s : System) where
  above_some : (P : List ℕ → Type 0) (less numbers : Automaton) (above : NamedAutomaton) → IsSystem s → IsOrderOf direction s less → HoldsOf direction (s ∷ []) P numbers
      → IsBothForSome direction (order_on less name_u name_x) (on_u numbers) above → HoldsOf direction (s ∷ []) (IsAboveSome P) above.automaton
  above_some P less numbers above system order holds made =
      let both = made.0 in
      let names : both.names ≡ name_u ∷ name_x ∷ [] = made.1.names in
      holds_same direction (s ∷ []) (completed (s ∷ s ∷ []) (1 ∷ []) (IsLessFrom P)) (IsAboveSome P) above.automaton (completed_above s P)
      (named_projection_holds direction (s ∷ s ∷ []) (system, (system, tt)) (record { names = name_u ∷ name_x ∷ []; automaton = both.automaton }) name_u refl (IsLessFrom P)
      (in_product_holds direction (s ∷ s ∷ []) (order_on less name_u name_x) (on_u numbers) IsLess P refl (above_sizes less numbers s.digits order.sizes holds.sizes) order holds And []
      tt (λ among. absurd (false≢true among)) both.automaton made.1.sizes made.1.language)
      above (subst (λ (c : NamedAutomaton). IsProjection direction c name_u above) (under_names both (name_u ∷ name_x ∷ []) names) made.2))

  -- the numbers above 0 are positive
  pub positive_holds : (less numbers : Automaton) (above : NamedAutomaton) → IsSystem s → IsOrderOf direction s less → IsZeroOf direction s numbers
      → IsBothForSome direction (order_on less name_u name_x) (on_u numbers) above → HoldsOf direction (s ∷ []) IsPositive above.automaton
  positive_holds less numbers above system order zeros made =
      holds_same direction (s ∷ []) (IsAboveSome IsZero) IsPositive above.automaton above_zero (above_some IsZero less numbers above system order zeros made)

  -- those above a positive one are above 1
  pub above_one_holds : (less numbers : Automaton) (above : NamedAutomaton) → IsSystem s → IsOrderOf direction s less → HoldsOf direction (s ∷ []) IsPositive numbers
      → IsBothForSome direction (order_on less name_u name_x) (on_u numbers) above → HoldsOf direction (s ∷ []) IsAboveOne above.automaton
  above_one_holds less numbers above system order positive made =
      holds_same direction (s ∷ []) (IsAboveSome IsPositive) IsAboveOne above.automaton above_positive (above_some IsPositive less numbers above system order positive made)

  -- 1 is positive and not above 1
  pub one_holds : (positive above_one : Automaton) (one : NamedAutomaton) → HoldsOf direction (s ∷ []) IsPositive positive → HoldsOf direction (s ∷ []) IsAboveOne above_one
      → IsProduct AndNot (on_u positive) (on_u above_one) [] one → HoldsOf direction (s ∷ []) IsOne one.automaton
  one_holds positive above_one one first second made =
      holds_same direction (s ∷ []) IsOnlyPositive IsOne one.automaton only_is_one
      (in_product_holds direction (s ∷ []) (on_u positive) (on_u above_one) IsPositive IsAboveOne refl (one_sizes positive above_one s.digits first.sizes second.sizes) first second AndNot []
      bound (λ among. absurd (false≢true among)) one.automaton made.sizes made.language)
    where
      bound : All (Contains (name_u ∷ [])) (name_u ∷ [])
      bound zero d within = (0, omega arith, refl)
      bound (suc i) d within = absurd (omega (arith, within))

  -- the sums with 1 are the successors
  pub sums_hold : (adder one : Automaton) (next : NamedAutomaton) → IsSystem s → IsAdderOf direction s adder → HoldsOf direction (s ∷ []) IsOne one
      → IsBothForSome direction (sum_on adder) (on_u one) next → IsSuccessorOf direction s next.automaton
  sums_hold adder one next system adds holds made =
      let both = made.0 in
      let names : both.names ≡ name_u ∷ name_x ∷ name_y ∷ [] = made.1.names in
      holds_same direction (s ∷ s ∷ []) (completed (s ∷ s ∷ s ∷ []) (1 ∷ 2 ∷ []) IsSumWithOne) IsNext next.automaton (completed_next s)
      (named_projection_holds direction (s ∷ s ∷ s ∷ []) (system, (system, (system, tt))) (record { names = name_u ∷ name_x ∷ name_y ∷ []; automaton = both.automaton }) name_u refl IsSumWithOne
      (in_product_holds direction (s ∷ s ∷ s ∷ []) (sum_on adder) (on_u one) IsSum IsOne refl (sum_sizes adder one s.digits adds.sizes holds.sizes) adds holds And []
      tt (λ among. absurd (false≢true among)) both.automaton made.1.sizes made.1.language)
      next (subst (λ (c : NamedAutomaton). IsProjection direction c name_u next) (under_names both (name_u ∷ name_x ∷ name_y ∷ []) names) made.2))
