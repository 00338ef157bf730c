-- The sums of numbers with 0, and the law of zero.
use Rattle.std.proofs.Common.{◌≡◌, ℕ, max, Bool, List, [], ◌∷◌, ◌++◌, length, get_or, ◌<◌, ◌↔◌, IsTrue, refl, sym, ap, ◌∙◌, subst, arith}
use Rattle.std.specs.List.{Contains}
use Rattle.std.proofs.lemmas.Bool.{false≢true}
use Rattle.digit_tuple.specs.Parts.{picked}
use Rattle.digit_tuple.specs.Deterministic.{Automaton}
use Rattle.digit_tuple.specs.declared.direction.Direction.{Direction}
use Rattle.minimise.specs.Residuals.{SameLanguage}
use Rattle.minimise.specs.Tracked.{NamedAutomaton}
use Rattle.product_op.specs.declared.op.Op.TheVariants.{And}
use Rattle.product_op.specs.Tracks.{AgreeOnShared, joint_sizes}
use Rattle.pad_rename.specs.StayingTracks.{staying_sizes}
use Rattle.numeration.specs.Systems.{System, IsSystem}
use Rattle.numeration.specs.Relations.{HoldsOf, IsZero, IsZeroOf, IsEqual, IsEqualityOf}
use Rattle.numeration.specs.SomeTracks.{completed}
use Rattle.number_order.specs.Orders.{pair_sizes}
use Rattle.num_system.specs.Joined.{joined}
use Rattle.num_system.specs.Links.{Passes}
use Rattle.num_system.specs.Operations.{IsProjection}
use Rattle.num_system.specs.SuccessorSteps.{name_y}
use Rattle.num_system.proofs.NamedLinks.{in_product_holds}
use Rattle.num_system.proofs.NamedProjections.{named_projection_holds}
use Rattle.num_system.proofs.SuccessorLemmas.{holds_same, under_names}
use Rattle.automaton_steps.specs.JoinSteps.{IsJoin}
use Rattle.adder_check.specs.AdderLaws.{ZeroLaw}
use Rattle.adder_check.specs.AdderRelation.{adder_names, three_of}
use Rattle.adder_check.specs.ZeroSums.{on_y, IsZeroSum}
use Rattle.adder_check.proofs.NextSumSizes.{in_one, in_three, size_is}
use Rattle.adder_check.proofs.SameHolds.{same_holds}

max_zero : (d : ℕ) → max d 0 ∷ max d d ∷ max d 0 ∷ [] ≡ d ∷ d ∷ d ∷ []
max_zero d =
    let one : max d 0 ≡ d = omega arith in
    let two : max d d ≡ d = omega arith in
    ap (λ n. n ∷ max d d ∷ n ∷ []) one ∙ ap (λ n. d ∷ n ∷ d ∷ []) two

pub zero_sizes : (adder zero : Automaton) (d : ℕ) → adder.sizes ≡ d ∷ d ∷ d ∷ [] → zero.sizes ≡ d ∷ [] → joint_sizes (record { names = adder_names; automaton = adder }) (on_y zero) ≡ d ∷ d ∷ d ∷ []
zero_sizes adder zero d same also =
    ap (λ (ns : List ℕ). let a : Automaton = record { sizes = ns; states = adder.states } in joint_sizes (record { names = adder_names; automaton = a }) (on_y zero)) same
    ∙ ap (λ (ns : List ℕ). let a : Automaton = record { sizes = d ∷ d ∷ d ∷ []; states = adder.states } in let b : Automaton = record { sizes = ns; states = zero.states } in joint_sizes (record { names = adder_names; automaton = a }) (on_y b)) also
    ∙ max_zero d

module _ (direction : Direction) (s : System) (system : IsSystem s) (test : List ℕ → Bool) (adder zero : Automaton) (adds : HoldsOf direction (three_of s) (Passes test) adder) (nothing : IsZeroOf direction s zero) where
  -- the product of the adder with 0
  abbrev IsWithZero : List ℕ → Type 0
  IsWithZero = joined And (0 ∷ 1 ∷ 2 ∷ []) (Passes test) (1 ∷ []) IsZero

  with_zero : (c : NamedAutomaton) → IsJoin And [] (record { names = adder_names; automaton = adder }) (on_y zero) c → HoldsOf direction (three_of s) IsWithZero c.automaton
  with_zero c made =
      in_product_holds direction (three_of s) (record { names = adder_names; automaton = adder }) (on_y zero) (Passes test) IsZero refl (zero_sizes adder zero s.digits adds.sizes nothing.sizes)
      adds nothing And [] tt (λ among. absurd (false≢true among)) c.automaton made.sizes made.language

  zero_sum_from : (ms ns : List ℕ) → length ms ≡ 3 → picked (0 ∷ 2 ∷ []) ms ≡ ns → IsWithZero ms → IsZeroSum test ns
  zero_sum_from [] ns long picks is = absurd (omega (arith, long))
  zero_sum_from (x ∷ []) ns long picks is = absurd (omega (arith, long))
  zero_sum_from (x ∷ y ∷ []) ns long picks is = absurd (omega (arith, long))
  zero_sum_from (x ∷ y ∷ z ∷ []) ns long picks is =
      let none : y ≡ 0 = ap (λ (ks : List ℕ). get_or ks 0 0) is.1 in
      (x, z, sym picks, subst (λ n. IsTrue (test (x ∷ n ∷ z ∷ []))) none is.0)
  zero_sum_from (x ∷ y ∷ z ∷ w ∷ ms) ns long picks is = absurd (omega (arith, long))

  completed_zero : (ns : List ℕ) → length ns ≡ 2 → completed (three_of s) (0 ∷ 2 ∷ []) IsWithZero ns ↔ IsZeroSum test ns
  completed_zero ns long = (
    (λ found. zero_sum_from found.0 ns found.1 found.2 found.3),
    (λ is. (is.0 ∷ 0 ∷ is.1 ∷ [], refl, sym is.2, (is.3, refl))),
  )

  sums_from : (c : Automaton) (sums : NamedAutomaton) → HoldsOf direction (three_of s) IsWithZero c → IsProjection direction (record { names = adder_names; automaton = c }) name_y sums → HoldsOf direction (s ∷ s ∷ []) (IsZeroSum test) sums.automaton
  sums_from c sums holds made =
      holds_same direction (s ∷ s ∷ []) (completed (three_of s) (0 ∷ 2 ∷ []) IsWithZero) (IsZeroSum test) sums.automaton completed_zero
      (named_projection_holds direction (three_of s) (system, (system, (system, tt))) (record { names = adder_names; automaton = c }) name_y refl IsWithZero holds sums made)

-- what the two steps make
pub zero_sums_hold : (direction : Direction) (s : System) (test : List ℕ → Bool) (a b c sums : NamedAutomaton) (zero : Automaton) → IsSystem s → HoldsOf direction (three_of s) (Passes test) a.automaton → IsZeroOf direction s zero
    → a.names ≡ adder_names → b ≡ on_y zero → IsJoin And [] a b c → IsProjection direction c name_y sums → HoldsOf direction (s ∷ s ∷ []) (IsZeroSum test) sums.automaton
zero_sums_hold direction s test a b c sums zero system adds nothing names is join made =
    let here : IsJoin And [] (record { names = adder_names; automaton = a.automaton }) (on_y zero) c =
    subst (λ (n : NamedAutomaton). IsJoin And [] n (on_y zero) c) (under_names a adder_names names) (subst (λ (n : NamedAutomaton). IsJoin And [] a n c) is join) in
    sums_from direction s system test a.automaton zero adds nothing c.automaton sums (with_zero direction s system test a.automaton zero adds nothing c here)
    (subst (λ (n : NamedAutomaton). IsProjection direction n name_y sums) (under_names c adder_names here.names) made)

-- and their tracks
pub zero_sums_sizes : (direction : Direction) (a b c sums : NamedAutomaton) (zero : Automaton) (d : ℕ) → a.automaton.sizes ≡ d ∷ d ∷ d ∷ [] → zero.sizes ≡ d ∷ [] → a.names ≡ adder_names → b ≡ on_y zero → IsJoin And [] a b c
    → IsProjection direction c name_y sums → sums.automaton.sizes ≡ pair_sizes zero
zero_sums_sizes direction a b c sums zero d three one names is join made =
    let here : IsJoin And [] (record { names = adder_names; automaton = a.automaton }) (on_y zero) c =
    subst (λ (n : NamedAutomaton). IsJoin And [] n (on_y zero) c) (under_names a adder_names names) (subst (λ (n : NamedAutomaton). IsJoin And [] a n c) is join) in
    made.sizes
    ∙ ap (λ (n : NamedAutomaton). staying_sizes n name_y) (under_names c adder_names here.names)
    ∙ ap (λ (ns : List ℕ). picked (0 ∷ 2 ∷ []) ns) (here.sizes ∙ zero_sizes a.automaton zero d three one)
    ∙ sym (ap (λ (ns : List ℕ). ns ++ ns) one)

-- the adder and 0 on y agree on the track that they share
pub zero_agree : (a b : NamedAutomaton) (nothing : Automaton) (d : ℕ) → a.names ≡ adder_names → a.automaton.sizes ≡ d ∷ d ∷ d ∷ [] → nothing.sizes ≡ d ∷ [] → b ≡ on_y nothing → AgreeOnShared a b
zero_agree a b nothing d names three one is =
    subst (λ (t : NamedAutomaton). AgreeOnShared a t) (sym is)
    (λ name found other.
    size_is a d name (λ p within. ap (λ (ns : List ℕ). get_or ns p 0) three ∙ in_three d p (subst (λ (ns : List (List ℕ)). p < length ns) names within)) found
    ∙ sym (size_is (on_y nothing) d name (λ p within. ap (λ (ns : List ℕ). get_or ns p 0) one ∙ in_one d p within) other))

-- and this track is one of their product
pub zero_there : (a b c : NamedAutomaton) (zero : Automaton) → a.names ≡ adder_names → b ≡ on_y zero → IsJoin And [] a b c → Contains c.names name_y
zero_there a b c zero names is join =
    let here : IsJoin And [] (record { names = adder_names; automaton = a.automaton }) (on_y zero) c =
    subst (λ (n : NamedAutomaton). IsJoin And [] n (on_y zero) c) (under_names a adder_names names) (subst (λ (n : NamedAutomaton). IsJoin And [] a n c) is join) in
    let now : c.names ≡ adder_names = here.names in
    subst (λ (ns : List (List ℕ)). Contains ns name_y) (sym now) (1, omega arith, refl)

-- pairs determine their numbers
pair_first : (x z y w : ℕ) → x ∷ z ∷ [] ≡ y ∷ w ∷ [] → x ≡ y
pair_first x z y w same = ap (λ (ns : List ℕ). get_or ns 0 0) same

pair_second : (x z y w : ℕ) → x ∷ z ∷ [] ≡ y ∷ w ∷ [] → z ≡ w
pair_second x z y w same = ap (λ (ns : List ℕ). get_or ns 1 0) same

module _ (test : List ℕ → Bool) where
  abbrev pub adds : ℕ → ℕ → ℕ → Type 0
  adds x y z = IsTrue (test (x ∷ y ∷ z ∷ []))

  law_from_pairs : ((ns : List ℕ) → length ns ≡ 2 → IsZeroSum test ns ↔ IsEqual ns) → ZeroLaw adds
  law_from_pairs same x z = (there, back)
    where
      there : adds x 0 z → z ≡ x
      there t = let is = (same (x ∷ z ∷ []) refl).0 (x, z, refl, t) in omega (arith, pair_first x z is.0 is.1 is.2, pair_second x z is.0 is.1 is.2, is.3)

      back : z ≡ x → adds x 0 z
      back e =
          let is = (same (x ∷ z ∷ []) refl).1 (x, z, refl, sym e) in
          subst (λ n. IsTrue (test (x ∷ 0 ∷ n ∷ []))) (sym (pair_second x z is.0 is.1 is.2)) (subst (λ n. IsTrue (test (n ∷ 0 ∷ is.1 ∷ []))) (sym (pair_first x z is.0 is.1 is.2)) is.3)

  pairs_from_law : ZeroLaw adds → (ns : List ℕ) → length ns ≡ 2 → IsZeroSum test ns ↔ IsEqual ns
  pairs_from_law law ns long = (
    (λ is. (is.0, is.1, is.2, sym ((law is.0 is.1).0 is.3))),
    (λ is. (is.0, is.1, is.2, (law is.0 is.1).1 (sym is.3))),
  )

  -- the sums with 0 have the language of equal numbers if and only if the law of zero holds
  pub zero_law_decided : (direction : Direction) (s : System) (d e : Automaton) → IsSystem s → HoldsOf direction (s ∷ s ∷ []) (IsZeroSum test) d → IsEqualityOf direction s e → SameLanguage d e ↔ ZeroLaw adds
  zero_law_decided direction s d e system sums equal =
      let decided = same_holds direction (s ∷ s ∷ []) (system, (system, tt)) (IsZeroSum test) IsEqual d e sums equal in
      ((λ same. law_from_pairs (decided.0 same)), (λ law. decided.1 (pairs_from_law law)))
