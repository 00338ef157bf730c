-- A table of a nondeterministic automaton is determined by its sizes, its number of states, and by what these accept and lead to.
use Rattle.std.proofs.Common.{◌≡◌, ℕ, ◌<◌, List, [], ◌∷◌, ◌↔◌, ◌⊎◌, inl, inr, refl, sym, ap, ◌∙◌, subst, IsTrue, arith, ext_get_or}
use Rattle.std.specs.List.{AllPairs, Contains}
use Rattle.digit_tuple.specs.declared.transitions.Transition.{Transition}
use Rattle.digit_tuple.specs.Automaton.{Branching, IsBefore, IsBranchTable, Leads, accepting_of, branch_of, transitions_of, letters_of, no_branch, states_of}
use Rattle.digit_tuple.proofs.MemberLemmas.{AllPairs-head, AllPairs-tail, Contains-cases, Contains-head, Contains-none, Contains-tail}
use Rattle.digit_tuple.proofs.TableLemmas.{IsRow-transitions_of}
use Rattle.digit_tuple.proofs.TruthLemmas.{same_tests}

-- no transition is before one that is before it
before_once : (e f : Transition) → IsBefore e f → IsBefore f e → ⊥
before_once e f (inl less) (inl more) = omega (arith, less, more)
before_once e f (inl less) (inr more) = omega (arith, less, more.0)
before_once e f (inr less) (inl more) = omega (arith, less.0, more)
before_once e f (inr less) (inr more) = omega (arith, less.1, more.1)

-- transitions in order are determined by which they are
pub same_transitions : (es fs : List Transition) → AllPairs IsBefore es → AllPairs IsBefore fs → ((e : Transition) → Contains es e ↔ Contains fs e) → es ≡ fs
same_transitions [] [] up vp same = refl
same_transitions [] (f ∷ fs) up vp same = absurd (Contains-none f ((same f).1 (Contains-head f fs)))
same_transitions (e ∷ es) [] up vp same = absurd (Contains-none e ((same e).0 (Contains-head e es)))
same_transitions (e ∷ es) (f ∷ fs) up vp same =
    let heads : e ≡ f = first (Contains-cases f fs e ((same e).0 (Contains-head e es))) (Contains-cases e es f ((same f).1 (Contains-head f fs))) in
    let rest : es ≡ fs = same_transitions es fs (AllPairs-tail IsBefore e es up) (AllPairs-tail IsBefore f fs vp) (λ g. (
      λ there. later e f fs g (AllPairs-head IsBefore e es g up there) heads (Contains-cases f fs g ((same g).0 (Contains-tail e es g there))),
      λ there. later f e es g (AllPairs-head IsBefore f fs g vp there) (sym heads) (Contains-cases e es g ((same g).1 (Contains-tail f fs g there))),
    )) in
    ap (λ (x : Transition). x ∷ es) heads ∙ ap (λ (xs : List Transition). f ∷ xs) rest
  where
    first : (f ≡ e) ⊎ Contains fs e → (e ≡ f) ⊎ Contains es f → e ≡ f
    first (inl is) other = sym is
    first (inr there) (inl is) = is
    first (inr there) (inr here) = absurd (before_once e f (AllPairs-head IsBefore e es f up here) (AllPairs-head IsBefore f fs e vp there))

    later : (d z : Transition) (zs : List Transition) (g : Transition) → IsBefore d g → d ≡ z → (z ≡ g) ⊎ Contains zs g → Contains zs g
    later d z zs g before is (inl here) = absurd (let itself : IsBefore g g = subst (λ (x : Transition). IsBefore x g) (is ∙ here) before in before_once g g itself itself)
    later d z zs g before is (inr there) = there

module _ (n m : Branching) (sizes : n.sizes ≡ m.sizes) (states : states_of n ≡ states_of m) (accepting : (q : ℕ) → IsTrue (accepting_of n q) ↔ IsTrue (accepting_of m q))
    (leads : (p letter q : ℕ) → Leads n p letter q ↔ Leads m p letter q) (one : IsBranchTable (letters_of n) n.states) (other : IsBranchTable (letters_of m) m.states) where
  transitions_same : (q : ℕ) → q < states_of n → transitions_of n q ≡ transitions_of m q
  transitions_same q within =
      same_transitions (transitions_of n q) (transitions_of m q) (IsRow-transitions_of n q one within).ascending (IsRow-transitions_of m q other (omega (arith, within, states))).ascending
      (λ e. leads q e.letter e.target)

  branch_same : (q : ℕ) → q < states_of n → branch_of n q ≡ branch_of m q
  branch_same q within =
      let accept = same_tests (accepting_of n q) (accepting_of m q) (accepting q) in
      let transitions = transitions_same q within in
      λ i. record { accepting = accept i; transitions = transitions i }

  pub same_branching : n ≡ m
  same_branching =
      let rows : n.states ≡ m.states = ext_get_or no_branch n.states m.states states branch_same in
      λ i. record { sizes = sizes i; states = rows i }
