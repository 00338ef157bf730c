-- The three steps from the order of a system's numbers to their successor.
use Rattle.std.proofs.Common.{◌≡◌, ℕ, zero, suc, ◌<◌, max, List, [], ◌∷◌, get_or, length, inl, inr, refl, ap, sym, ◌∙◌, subst, arith, ◌↔◌}
use Rattle.std.specs.List.{All, Contains}
use Rattle.std.proofs.lemmas.Bool.{false≢true, cases_lt}
use Rattle.digit_tuple.specs.Parts.{picked}
use Rattle.digit_tuple.specs.Paddings.{in_order}
use Rattle.digit_tuple.specs.Deterministic.{Automaton}
use Rattle.digit_tuple.specs.declared.direction.Direction.{Direction}
use Rattle.minimise.specs.Tracked.{NamedAutomaton}
use Rattle.product_op.specs.declared.op.Op.TheVariants.{And, AndNot}
use Rattle.product_op.specs.Tracks.{joint_sizes}
use Rattle.numeration.specs.Systems.{System, IsSystem}
use Rattle.numeration.specs.Relations.{HoldsOf, IsLess, IsOrderOf}
use Rattle.numeration.specs.SomeTracks.{completed}
use Rattle.num_system.specs.Joined.{joined}
use Rattle.num_system.specs.Successor.{IsNext, IsInside, HasInside, IsSuccessorOf}
use Rattle.num_system.specs.Operations.{IsProduct, IsProjection}
use Rattle.num_system.specs.SuccessorSteps.{name_u, name_x, name_y, order_on, IsChain, chain_sizes}
use Rattle.numeration.proofs.TrackLemmas.{tracks_represent}
use Rattle.num_system.proofs.NamedLinks.{in_product_holds}
use Rattle.num_system.proofs.NamedProjections.{named_projection_holds}

-- relations that are the same of tuples of as many numbers as there are tracks
pub holds_same : (direction : Direction) (ss : List System) (P Q : List ℕ → Type 0) (d : Automaton) → ((ns : List ℕ) → length ns ≡ length ss → P ns ↔ Q ns) → HoldsOf direction ss P d → HoldsOf direction ss Q d
holds_same direction ss P Q d same holds = record {
  sizes = holds.sizes;
  accepts = λ w over.
      let both = holds.accepts w over in (
        λ accepted.
            let found = both.0 accepted in
            (found.0, found.1, (same found.0 (tracks_represent ss (in_order direction w) found.0 found.1).count).0 found.2),
        λ found. both.1 (found.0, found.1, (same found.0 (tracks_represent ss (in_order direction w) found.0 found.1).count).1 found.2),
      );
}

-- an automaton under other names that are equal
pub under_names : (c : NamedAutomaton) (ns : List (List ℕ)) → c.names ≡ ns → c ≡ record { names = ns; automaton = c.automaton }
under_names c ns same = λ i. record { names = same i; automaton = c.automaton }

-- a pair of numbers of which the first is less
pub less_first : (a b : ℕ) → IsLess (a ∷ b ∷ []) → a < b
less_first a b is =
    let first : a ≡ is.0 = ap (λ (ns : List ℕ). get_or ns 0 0) is.2 in
    let second : b ≡ is.1 = ap (λ (ns : List ℕ). get_or ns 1 0) is.2 in
    omega (arith, first, second, is.3)

-- x < u and u < y, the numbers as u, x, y
inside_triple : (u x y : ℕ) → joined And (1 ∷ 0 ∷ []) IsLess (0 ∷ 2 ∷ []) IsLess (u ∷ x ∷ y ∷ []) ↔ IsInside (u ∷ x ∷ y ∷ [])
inside_triple u x y = (λ both. (u, x, y, refl, less_first x u both.0, less_first u y both.1), back)
  where
    back : IsInside (u ∷ x ∷ y ∷ []) → joined And (1 ∷ 0 ∷ []) IsLess (0 ∷ 2 ∷ []) IsLess (u ∷ x ∷ y ∷ [])
    back is =
        let one : u ≡ is.0 = ap (λ (ns : List ℕ). get_or ns 0 0) is.3 in
        let two : x ≡ is.1 = ap (λ (ns : List ℕ). get_or ns 1 0) is.3 in
        let three : y ≡ is.2 = ap (λ (ns : List ℕ). get_or ns 2 0) is.3 in
        ((x, u, refl, omega (arith, one, two, is.4)), (u, y, refl, omega (arith, one, three, is.5)))

inside_joined : (ns : List ℕ) → length ns ≡ 3 → joined And (1 ∷ 0 ∷ []) IsLess (0 ∷ 2 ∷ []) IsLess ns ↔ IsInside ns
inside_joined [] long = absurd (omega (arith, long))
inside_joined (u ∷ []) long = absurd (omega (arith, long))
inside_joined (u ∷ x ∷ []) long = absurd (omega (arith, long))
inside_joined (u ∷ x ∷ y ∷ []) long = inside_triple u x y
inside_joined (u ∷ x ∷ y ∷ z ∷ ns) long = absurd (omega (arith, long))

module _ (s : System) where
  abbrev pub three : List System
  three = s ∷ s ∷ s ∷ []

  abbrev pub two : List System
  two = s ∷ s ∷ []

  -- some u makes a triple
  inside_completed : (ns : List ℕ) → length ns ≡ 2 → completed three (1 ∷ 2 ∷ []) IsInside ns ↔ HasInside ns
  inside_completed ns long = (there, λ is. (is.2 ∷ is.0 ∷ is.1 ∷ [], refl, sym is.3, (is.2, is.0, is.1, refl, is.4, is.5)))
    where
      there : completed three (1 ∷ 2 ∷ []) IsInside ns → HasInside ns
      there found =
          let is = found.3 in
          let pair : ns ≡ is.1 ∷ is.2 ∷ [] = sym found.2 ∙ ap (picked (1 ∷ 2 ∷ [])) is.3 in
          (is.1, is.2, is.0, pair, is.4, is.5)

  inside_found : (x y : ℕ) → suc x < y → HasInside (x ∷ y ∷ [])
  inside_found x y gap = (x, y, suc x, refl, omega arith, gap)

  none_inside : (x : ℕ) → HasInside (x ∷ suc x ∷ []) → ⊥
  none_inside x is =
      let first : x ≡ is.0 = ap (λ (ns : List ℕ). get_or ns 0 0) is.3 in
      let second : suc x ≡ is.1 = ap (λ (ns : List ℕ). get_or ns 1 0) is.3 in
      omega (arith, first, second, is.4, is.5)

  -- less, and nothing between
  abbrev pub IsClose : List ℕ → Type 0
  IsClose ns = joined AndNot (0 ∷ 1 ∷ []) IsLess (0 ∷ 1 ∷ []) HasInside ns

  next_close : (x y : ℕ) → IsClose (x ∷ y ∷ []) ↔ IsNext (x ∷ y ∷ [])
  next_close x y = (there, back)
    where
      there : IsClose (x ∷ y ∷ []) → IsNext (x ∷ y ∷ [])
      there close =
          let less = less_first x y close.0 in
          elim (cases_lt (suc x) y) [
            | inl gap ↦ absurd (close.1 (inside_found x y gap))
            | inr near ↦ (x, let same : y ≡ suc x = omega (arith, less, near) in ap (λ n. x ∷ n ∷ []) same)
          ]

      back : IsNext (x ∷ y ∷ []) → IsClose (x ∷ y ∷ [])
      back next =
          let first : x ≡ next.0 = ap (λ (ns : List ℕ). get_or ns 0 0) next.1 in
          let second : y ≡ suc next.0 = ap (λ (ns : List ℕ). get_or ns 1 0) next.1 in
          let same : y ≡ suc x = omega (arith, first, second) in
          ((x, y, refl, omega (arith, same)), λ found. none_inside x (subst (λ n. HasInside (x ∷ n ∷ [])) same found))

  close_is_next : (ns : List ℕ) → length ns ≡ 2 → IsClose ns ↔ IsNext ns
  close_is_next [] long = absurd (omega (arith, long))
  close_is_next (x ∷ []) long = absurd (omega (arith, long))
  close_is_next (x ∷ y ∷ []) long = next_close x y
  close_is_next (x ∷ y ∷ z ∷ ns) long = absurd (omega (arith, long))

sizes_joint : (d : ℕ) → max d d ∷ max d 0 ∷ max 0 d ∷ [] ≡ d ∷ d ∷ d ∷ []
sizes_joint d =
    let one : max d d ≡ d = omega arith in
    let other : max d 0 ≡ d = omega arith in
    let third : max 0 d ≡ d = omega arith in
    ap (λ n. n ∷ max d 0 ∷ max 0 d ∷ []) one ∙ ap (λ n. d ∷ n ∷ max 0 d ∷ []) other ∙ ap (λ n. d ∷ d ∷ n ∷ []) third

sizes_same : (d : ℕ) → max d d ∷ max d d ∷ [] ≡ d ∷ d ∷ []
sizes_same d = let one : max d d ≡ d = omega arith in ap (λ n. n ∷ max d d ∷ []) one ∙ ap (λ n. d ∷ n ∷ []) one

-- the sizes of the first step's tracks
pub chain_sizes_are : (less : Automaton) (d : ℕ) → less.sizes ≡ d ∷ d ∷ [] → chain_sizes less ≡ d ∷ d ∷ d ∷ []
chain_sizes_are less d same =
    ap (λ (ns : List ℕ). let a : Automaton = record { sizes = ns; states = less.states } in chain_sizes a) same ∙ sizes_joint d

-- and of the third's
pub next_sizes_are : (less : Automaton) (between : Automaton) (d : ℕ) → less.sizes ≡ d ∷ d ∷ [] → between.sizes ≡ d ∷ d ∷ []
    → joint_sizes (order_on less name_x name_y) (order_on between name_x name_y) ≡ d ∷ d ∷ []
next_sizes_are less between d same also =
    ap (λ (ns : List ℕ). let a : Automaton = record { sizes = ns; states = less.states } in joint_sizes (order_on a name_x name_y) (order_on between name_x name_y)) same
    ∙ ap (λ (ns : List ℕ). let a : Automaton = record { sizes = d ∷ d ∷ []; states = less.states } in let b : Automaton = record { sizes = ns; states = between.states } in joint_sizes (order_on a name_x name_y) (order_on b name_x name_y)) also
    ∙ sizes_same d

-- what the three steps hold of
module _ (direction : Direction) (s : System) where
  pub chain_holds : (less : Automaton) (chain : NamedAutomaton) → IsOrderOf direction s less → IsChain less chain → HoldsOf direction (three s) IsInside chain.automaton
  chain_holds less chain is made =
      holds_same direction (three s) (joined And (1 ∷ 0 ∷ []) IsLess (0 ∷ 2 ∷ []) IsLess) IsInside chain.automaton inside_joined
      (in_product_holds direction (three s) (order_on less name_x name_u) (order_on less name_u name_y) IsLess IsLess refl (chain_sizes_are less s.digits is.sizes) is is And []
      tt (λ among. absurd (false≢true among)) chain.automaton made.sizes made.language)

  between_from : (chain : Automaton) (between : NamedAutomaton) → IsSystem s → HoldsOf direction (three s) IsInside chain
      → IsProjection direction (record { names = name_u ∷ name_x ∷ name_y ∷ []; automaton = chain }) name_u between → HoldsOf direction (two s) HasInside between.automaton
  between_from chain between system holds made =
      holds_same direction (two s) (completed (three s) (1 ∷ 2 ∷ []) IsInside) HasInside between.automaton (inside_completed s)
      (named_projection_holds direction (three s) (system, (system, (system, tt))) (record { names = name_u ∷ name_x ∷ name_y ∷ []; automaton = chain }) name_u refl IsInside holds between made)

  pub between_holds : (chain between : NamedAutomaton) → IsSystem s → chain.names ≡ name_u ∷ name_x ∷ name_y ∷ [] → HoldsOf direction (three s) IsInside chain.automaton
      → IsProjection direction chain name_u between → HoldsOf direction (two s) HasInside between.automaton
  between_holds chain between system names holds made =
      between_from chain.automaton between system holds
      (subst (λ (c : NamedAutomaton). IsProjection direction c name_u between) (under_names chain (name_u ∷ name_x ∷ name_y ∷ []) names) made)

  next_from : (less between : Automaton) (next : NamedAutomaton) → IsOrderOf direction s less → HoldsOf direction (two s) HasInside between
      → IsProduct AndNot (order_on less name_x name_y) (order_on between name_x name_y) [] next → IsSuccessorOf direction s next.automaton
  next_from less between next is holds made =
      holds_same direction (two s) (IsClose s) IsNext next.automaton (close_is_next s)
      (in_product_holds direction (two s) (order_on less name_x name_y) (order_on between name_x name_y) IsLess HasInside refl
      (next_sizes_are less between s.digits is.sizes holds.sizes) is holds AndNot [] bound (λ among. absurd (false≢true among)) next.automaton made.sizes made.language)
    where
      bound : All (Contains (name_x ∷ name_y ∷ [])) (name_x ∷ name_y ∷ [])
      bound zero d within = (0, omega arith, refl)
      bound (suc zero) d within = (1, omega arith, refl)
      bound (suc (suc i)) d within = absurd (omega (arith, within))

  -- the result of the three steps is the successor
  pub next_holds : (less : Automaton) (between next : NamedAutomaton) → IsOrderOf direction s less → between.names ≡ name_x ∷ name_y ∷ [] → HoldsOf direction (two s) HasInside between.automaton
      → IsProduct AndNot (order_on less name_x name_y) between [] next → IsSuccessorOf direction s next.automaton
  next_holds less between next is names holds made =
      next_from less between.automaton next is holds
      (subst (λ (c : NamedAutomaton). IsProduct AndNot (order_on less name_x name_y) c [] next) (under_names between (name_x ∷ name_y ∷ []) names) made)
