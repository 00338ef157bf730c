-- The sums of numbers with numbers one more, the numbers one more than sums, and the law of the successor.
use Rattle.std.proofs.Common.{◌≡◌, ℕ, suc, Bool, List, [], ◌∷◌, length, get_or, ◌↔◌, IsTrue, refl, sym, ap, ◌∙◌, subst, arith}
use Rattle.std.proofs.lemmas.Bool.{false≢true}
use Rattle.digit_tuple.specs.Parts.{picked}
use Rattle.digit_tuple.specs.Deterministic.{Automaton}
use Rattle.digit_tuple.specs.declared.direction.Direction.{Direction}
use Rattle.minimise.specs.Residuals.{SameLanguage}
use Rattle.minimise.specs.Tracked.{NamedAutomaton}
use Rattle.product_op.specs.declared.op.Op.TheVariants.{And}
use Rattle.numeration.specs.Systems.{System, IsSystem, AreSystems}
use Rattle.numeration.specs.Relations.{HoldsOf}
use Rattle.numeration.specs.SomeTracks.{completed}
use Rattle.num_system.specs.Joined.{joined}
use Rattle.num_system.specs.Links.{Passes}
use Rattle.num_system.specs.Operations.{IsProjection}
use Rattle.num_system.specs.Successor.{IsNext, IsSuccessorOf}
use Rattle.num_system.specs.SuccessorSteps.{name_x, name_y, order_on}
use Rattle.num_system.proofs.NamedLinks.{in_product_holds}
use Rattle.num_system.proofs.NamedProjections.{named_projection_holds}
use Rattle.num_system.proofs.SuccessorLemmas.{holds_same, under_names}
use Rattle.automaton_steps.specs.JoinSteps.{IsJoin}
use Rattle.adder_check.specs.AdderLaws.{SuccessorLaw}
use Rattle.adder_check.specs.AdderRelation.{name_z, three_of}
use Rattle.adder_check.specs.NextSums.{sum_on, name_v, name_w, IsSumWithNext, IsNextOfSum}
use Rattle.adder_check.proofs.NextSumSizes.{with_next_sizes, of_sums_sizes}
use Rattle.adder_check.proofs.SameHolds.{same_holds}

-- numbers of which the one is next after the other
next_is : (m n : ℕ) → IsNext (m ∷ n ∷ []) → n ≡ suc m
next_is m n is =
    let first : m ≡ is.0 = ap (λ (ns : List ℕ). get_or ns 0 0) is.1 in
    let second : n ≡ suc is.0 = ap (λ (ns : List ℕ). get_or ns 1 0) is.1 in
    omega (arith, first, second)

-- two automata were compared, which are these
pub compared : (same : Bool) (a b d e : Automaton) → a ≡ d → b ≡ e → IsTrue same ↔ SameLanguage a b → IsTrue same ↔ SameLanguage d e
compared same a b d e first second is =
    subst (λ (x : Automaton). IsTrue same ↔ SameLanguage x e) first (subst (λ (x : Automaton). IsTrue same ↔ SameLanguage a x) second is)

module _ (s : System) (test : List ℕ → Bool) where
  abbrev pub four_of : List System
  four_of = s ∷ s ∷ s ∷ s ∷ []

  -- the product of `v is one more than y` with the adder on x, v and z
  abbrev IsWithNext : List ℕ → Type 0
  IsWithNext = joined And (2 ∷ 0 ∷ []) IsNext (1 ∷ 0 ∷ 3 ∷ []) (Passes test)

  sum_from : (ms ns : List ℕ) → length ms ≡ 4 → picked (1 ∷ 2 ∷ 3 ∷ []) ms ≡ ns → IsWithNext ms → IsSumWithNext test ns
  sum_from [] ns long picks is = absurd (omega (arith, long))
  sum_from (v ∷ []) ns long picks is = absurd (omega (arith, long))
  sum_from (v ∷ x ∷ []) ns long picks is = absurd (omega (arith, long))
  sum_from (v ∷ x ∷ y ∷ []) ns long picks is = absurd (omega (arith, long))
  sum_from (v ∷ x ∷ y ∷ z ∷ []) ns long picks is = (x, y, z, sym picks, subst (λ n. IsTrue (test (x ∷ n ∷ z ∷ []))) (next_is y v is.0) is.1)
  sum_from (v ∷ x ∷ y ∷ z ∷ k ∷ ms) ns long picks is = absurd (omega (arith, long))

  completed_sum : (ns : List ℕ) → length ns ≡ 3 → completed four_of (1 ∷ 2 ∷ 3 ∷ []) IsWithNext ns ↔ IsSumWithNext test ns
  completed_sum ns long = (
    (λ found. sum_from found.0 ns found.1 found.2 found.3),
    (λ is. (suc is.1 ∷ is.0 ∷ is.1 ∷ is.2 ∷ [], refl, sym is.3, ((is.1, refl), is.4))),
  )

  -- the product of the adder on x, y and w with `z is one more than w`
  abbrev IsOfSum : List ℕ → Type 0
  IsOfSum = joined And (1 ∷ 2 ∷ 0 ∷ []) (Passes test) (0 ∷ 3 ∷ []) IsNext

  next_from : (ms ns : List ℕ) → length ms ≡ 4 → picked (1 ∷ 2 ∷ 3 ∷ []) ms ≡ ns → IsOfSum ms → IsNextOfSum test ns
  next_from [] ns long picks is = absurd (omega (arith, long))
  next_from (w ∷ []) ns long picks is = absurd (omega (arith, long))
  next_from (w ∷ x ∷ []) ns long picks is = absurd (omega (arith, long))
  next_from (w ∷ x ∷ y ∷ []) ns long picks is = absurd (omega (arith, long))
  next_from (w ∷ x ∷ y ∷ z ∷ []) ns long picks is = (x, y, w, sym picks ∙ ap (λ n. x ∷ y ∷ n ∷ []) (next_is w z is.1), is.0)
  next_from (w ∷ x ∷ y ∷ z ∷ k ∷ ms) ns long picks is = absurd (omega (arith, long))

  completed_next : (ns : List ℕ) → length ns ≡ 3 → completed four_of (1 ∷ 2 ∷ 3 ∷ []) IsOfSum ns ↔ IsNextOfSum test ns
  completed_next ns long = (
    (λ found. next_from found.0 ns found.1 found.2 found.3),
    (λ is. (is.2 ∷ is.0 ∷ is.1 ∷ suc is.2 ∷ [], refl, sym is.3, (is.4, (is.2, refl)))),
  )

-- what the steps make
module _ (direction : Direction) (s : System) (system : IsSystem s) (test : List ℕ → Bool) (adder next : Automaton) (adds : HoldsOf direction (three_of s) (Passes test) adder) (follows : IsSuccessorOf direction s next) where
  abbrev four : List System
  four = four_of s test

  systems : AreSystems four
  systems = (system, (system, (system, (system, tt))))

  with_next : (c : NamedAutomaton) → IsJoin And [] (order_on next name_y name_v) (sum_on adder name_x name_v name_z) c → HoldsOf direction four (IsWithNext s test) c.automaton
  with_next c made =
      in_product_holds direction four (order_on next name_y name_v) (sum_on adder name_x name_v name_z) IsNext (Passes test) refl (with_next_sizes adder next s.digits adds.sizes follows.sizes)
      follows adds And [] tt (λ among. absurd (false≢true among)) c.automaton made.sizes made.language

  sums_with_next : (c : Automaton) (sums : NamedAutomaton) → HoldsOf direction four (IsWithNext s test) c
      → IsProjection direction (record { names = name_v ∷ name_x ∷ name_y ∷ name_z ∷ []; automaton = c }) name_v sums → HoldsOf direction (three_of s) (IsSumWithNext test) sums.automaton
  sums_with_next c sums holds made =
      holds_same direction (three_of s) (completed four (1 ∷ 2 ∷ 3 ∷ []) (IsWithNext s test)) (IsSumWithNext test) sums.automaton (completed_sum s test)
      (named_projection_holds direction four systems (record { names = name_v ∷ name_x ∷ name_y ∷ name_z ∷ []; automaton = c }) name_v refl (IsWithNext s test) holds sums made)

  pub with_next_holds : (a b c sums : NamedAutomaton) → a ≡ order_on next name_y name_v → b ≡ sum_on adder name_x name_v name_z → IsJoin And [] a b c → IsProjection direction c name_v sums
      → HoldsOf direction (three_of s) (IsSumWithNext test) sums.automaton
  with_next_holds a b c sums first second join made =
      let here : IsJoin And [] (order_on next name_y name_v) (sum_on adder name_x name_v name_z) c =
      subst (λ (t : NamedAutomaton). IsJoin And [] t (sum_on adder name_x name_v name_z) c) first (subst (λ (t : NamedAutomaton). IsJoin And [] a t c) second join) in
      sums_with_next c.automaton sums (with_next c here)
      (subst (λ (t : NamedAutomaton). IsProjection direction t name_v sums) (under_names c (name_v ∷ name_x ∷ name_y ∷ name_z ∷ []) here.names) made)

  of_sum : (c : NamedAutomaton) → IsJoin And [] (sum_on adder name_x name_y name_w) (order_on next name_w name_z) c → HoldsOf direction four (IsOfSum s test) c.automaton
  of_sum c made =
      in_product_holds direction four (sum_on adder name_x name_y name_w) (order_on next name_w name_z) (Passes test) IsNext refl (of_sums_sizes adder next s.digits adds.sizes follows.sizes)
      adds follows And [] tt (λ among. absurd (false≢true among)) c.automaton made.sizes made.language

  next_of_sums : (c : Automaton) (sums : NamedAutomaton) → HoldsOf direction four (IsOfSum s test) c
      → IsProjection direction (record { names = name_w ∷ name_x ∷ name_y ∷ name_z ∷ []; automaton = c }) name_w sums → HoldsOf direction (three_of s) (IsNextOfSum test) sums.automaton
  next_of_sums c sums holds made =
      holds_same direction (three_of s) (completed four (1 ∷ 2 ∷ 3 ∷ []) (IsOfSum s test)) (IsNextOfSum test) sums.automaton (completed_next s test)
      (named_projection_holds direction four systems (record { names = name_w ∷ name_x ∷ name_y ∷ name_z ∷ []; automaton = c }) name_w refl (IsOfSum s test) holds sums made)

  pub of_sums_holds : (a b c sums : NamedAutomaton) → a ≡ sum_on adder name_x name_y name_w → b ≡ order_on next name_w name_z → IsJoin And [] a b c → IsProjection direction c name_w sums
      → HoldsOf direction (three_of s) (IsNextOfSum test) sums.automaton
  of_sums_holds a b c sums first second join made =
      let here : IsJoin And [] (sum_on adder name_x name_y name_w) (order_on next name_w name_z) c =
      subst (λ (t : NamedAutomaton). IsJoin And [] t (order_on next name_w name_z) c) first (subst (λ (t : NamedAutomaton). IsJoin And [] a t c) second join) in
      next_of_sums c.automaton sums (of_sum c here)
      (subst (λ (t : NamedAutomaton). IsProjection direction t name_w sums) (under_names c (name_w ∷ name_x ∷ name_y ∷ name_z ∷ []) here.names) made)

-- triples determine their numbers
at : {xs ys : List ℕ} (i : ℕ) → xs ≡ ys → get_or xs i 0 ≡ get_or ys i 0
at i same = ap (λ (ns : List ℕ). get_or ns i 0) same

module _ (test : List ℕ → Bool) where
  abbrev adds : ℕ → ℕ → ℕ → Type 0
  adds x y z = IsTrue (test (x ∷ y ∷ z ∷ []))

  abbrev SameTriples : Type 0
  SameTriples = (ns : List ℕ) → length ns ≡ 3 → IsSumWithNext test ns ↔ IsNextOfSum test ns

  sum_parts : (x y z : ℕ) → IsSumWithNext test (x ∷ y ∷ z ∷ []) → adds x (suc y) z
  sum_parts x y z (a, b, c, same, holds) =
      subst (λ (ns : List ℕ). IsTrue (test ns)) (sym (λ i. at 0 same i ∷ suc (at 1 same i) ∷ at 2 same i ∷ [])) holds

  next_parts : (x y z : ℕ) → IsNextOfSum test (x ∷ y ∷ z ∷ []) → (w : ℕ) × adds x y w × (z ≡ suc w)
  next_parts x y z (a, b, w, same, holds) =
      (w, subst (λ (ns : List ℕ). IsTrue (test ns)) (sym (λ i. at 0 same i ∷ at 1 same i ∷ w ∷ [])) holds, at 2 same)

  law_from_triples : SameTriples → SuccessorLaw adds
  law_from_triples same x y z = (
    (λ t. next_parts x y z ((same (x ∷ y ∷ z ∷ []) refl).0 (x, y, z, refl, t))),
    (λ found. sum_parts x y z ((same (x ∷ y ∷ z ∷ []) refl).1 (x, y, found.0, ap (λ n. x ∷ y ∷ n ∷ []) found.2, found.1))),
  )

  triples_from_law : SuccessorLaw adds → SameTriples
  triples_from_law law ns long = (
    (λ is. let found = (law is.0 is.1 is.2).0 is.4 in (is.0, is.1, found.0, is.3 ∙ ap (λ n. is.0 ∷ is.1 ∷ n ∷ []) found.2, found.1)),
    (λ is. (is.0, is.1, suc is.2, is.3, (law is.0 is.1 (suc is.2)).1 (is.2, is.4, refl))),
  )

  -- both have one language if and only if the law of the successor holds
  pub successor_law_decided : (direction : Direction) (s : System) (d e : Automaton) → IsSystem s → HoldsOf direction (three_of s) (IsSumWithNext test) d → HoldsOf direction (three_of s) (IsNextOfSum test) e
      → SameLanguage d e ↔ SuccessorLaw adds
  successor_law_decided direction s d e system one other =
      let decided = same_holds direction (three_of s) (system, (system, (system, tt))) (IsSumWithNext test) (IsNextOfSum test) d e one other in
      ((λ same. law_from_triples (decided.0 same)), (λ law. decided.1 (triples_from_law law)))
