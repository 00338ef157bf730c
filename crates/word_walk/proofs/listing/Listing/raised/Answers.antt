use Rattle.std.proofs.Common.{◌≡◌, ◌+◌, ◌-◌, ◌<◌, ◌++◌, ℕ, suc, List, None, Some, length, get_or, take, drop, refl, sym, ap, ◌∙◌, subst, arith}
use Rattle.std.proofs.lemmas.List.{get_or_default, length-drop, length-take-le}
use Rattle.digit_tuple.specs.declared.transitions.Transition.{Transition}
use Rattle.digit_tuple.specs.Deterministic.{Automaton, states_of, transitions_of}
use Rattle.word_walk.specs.Levels.{first_live}
use Rattle.word_walk.specs.Raising.{path_of, word_by}
use Rattle.word_walk.proofs.CodeLemmas.{first_live-greater, first_live-within, state_within}
use Rattle.word_walk.proofs.PathLemmas.{length-path_of, raised-some, raised_after, raised_after-none, raised_after-path}
use Rattle.word_walk.proofs.listing.Listing.raised.Goals as goal

pub loop-at-init : goal.loop-at-init
loop-at-init c =
    let d : Automaton = c.args.self.now.dfa in
    let w : List ℕ = c.args.word.now in
    let size : c.len-at.result ≡ length (path_of d 0 w) = omega (arith, ap (λ (ps : List ℕ). length ps) c.in_ok-path.ensures, c.len-at.ensures) in
    record { same = refl; none = ap (λ (n : ℕ). raised_after d 0 n w) size ∙ raised_after-path d w 0 }

pub overflow_sub-rest-in-loop-at : goal.overflow_sub-rest-in-loop-at
overflow_sub-rest-in-loop-at c =
    omega (arith, c.loop-at-test.true, c.loop-at.auto.at, c.len-at.ensures, ap (λ (ps : List ℕ). length ps) c.in_ok-path.ensures, length-path_of c.args.self.now.dfa c.args.word.now 0)

pub transitions_into-requires : goal.transitions_into-requires
transitions_into-requires c =
    let d : Automaton = c.args.self.now.dfa in
    let w : List ℕ = c.args.word.now in
    let k : ℕ = c.loop-at.at - 1 in
    let within : k < length (path_of d 0 w) = omega (arith, c.loop-at-test.true, c.loop-at.auto.at, c.len-at.ensures, ap (λ (ps : List ℕ). length ps) c.in_ok-path.ensures) in
    let inside : k < length c.in_ok-path.path.items = omega (arith, c.loop-at-test.true, c.loop-at.auto.at, c.len-at.ensures) in
    let state : c.index.result.now ≡ get_or (path_of d 0 w) k 0 = c.index.ensures ∙ get_or_default c.in_ok-path.path.items k c.index.result.now 0 inside ∙ ap (λ (ps : List ℕ). get_or ps k 0) c.in_ok-path.ensures in
    subst (λ (x : Automaton). c.index.result.now < states_of x) (sym c.loop-at.invariant.same)
    (subst (λ (q : ℕ). q < states_of d) (sym state) (state_within d c.args.self.now.is_table w k within))

pub bounds-word-at : goal.bounds-word-at
bounds-word-at c =
    omega (arith, c.loop-at-test.true, c.loop-at.auto.at, c.len-at.ensures, ap (λ (ps : List ℕ). length ps) c.in_ok-path.ensures, length-path_of c.args.self.now.dfa c.args.word.now 0)

pub slice_bounds-word_after-end : goal.slice_bounds-word_after-end
slice_bounds-word_after-end c =
    sym (length-take-le (c.loop-at.at - 1) c.args.word.now
    (omega (arith, c.loop-at-test.true, c.loop-at.auto.at, c.len-at.ensures, ap (λ (ps : List ℕ). length ps) c.in_ok-path.ensures, length-path_of c.args.self.now.dfa c.args.word.now 0)))

pub word_after-requires : goal.word_after-requires
word_after-requires c =
    let d : Automaton = c.args.self.now.dfa in
    let s : Automaton = c.loop-at.self.dfa in
    let w : List ℕ = c.args.word.now in
    let k : ℕ = c.loop-at.at - 1 in
    let m : ℕ = length w - 1 - k in
    let within : k < length (path_of d 0 w) = omega (arith, c.loop-at-test.true, c.loop-at.auto.at, c.len-at.ensures, ap (λ (ps : List ℕ). length ps) c.in_ok-path.ensures) in
    let inside : k < length c.in_ok-path.path.items = omega (arith, c.loop-at-test.true, c.loop-at.auto.at, c.len-at.ensures) in
    let state : c.index.result.now ≡ get_or (path_of d 0 w) k 0 = c.index.ensures ∙ get_or_default c.in_ok-path.path.items k c.index.result.now 0 inside ∙ ap (λ (ps : List ℕ). get_or ps k 0) c.in_ok-path.ensures in
    let same : s ≡ d = c.loop-at.invariant.same in
    let row : c.deref.result.now ≡ transitions_of d c.index.result.now = c.deref.ensures.value ∙ c.in_ok-transitions_into.ensures.transitions ∙ ap (λ (x : Automaton). transitions_of x c.index.result.now) same in
    let from : ℕ = c.from-greater.result + 1 in
    let greater : from ≡ suc (get_or w k 0) = omega (arith, c.from-greater.ensures) in
    let e : Transition = c.in-Some.transition in
    let found : first_live d (length (drop (k + 1) w)) (suc (get_or w k 0)) (transitions_of d (get_or (path_of d 0 w) k 0)) ≡ Some e
    = sym (first_live-greater d c.args.self.now.is_table w k within m from c.index.result.now c.deref.result.now refl greater state row)
    ∙ sym (ap (λ (x : Automaton). first_live x m from c.deref.result.now) same) ∙ sym c.in_ok-transition.ensures.first ∙ c.in-Some.is in
    subst (λ (x : Automaton). e.target < states_of x) (sym (c.in_ok-transition.ensures.same ∙ same))
    (first_live-within d c.args.self.now.is_table (length (drop (k + 1) w)) (suc (get_or w k 0)) (get_or (path_of d 0 w) k 0) e (state_within d c.args.self.now.is_table w k within) found)

pub returns-in-Some-clause-raised : goal.returns-in-Some-clause-raised
returns-in-Some-clause-raised c =
    let d : Automaton = c.args.self.now.dfa in
    let s : Automaton = c.loop-at.self.dfa in
    let w : List ℕ = c.args.word.now in
    let k : ℕ = c.loop-at.at - 1 in
    let m : ℕ = length w - 1 - k in
    let within : k < length (path_of d 0 w) = omega (arith, c.loop-at-test.true, c.loop-at.auto.at, c.len-at.ensures, ap (λ (ps : List ℕ). length ps) c.in_ok-path.ensures) in
    let inside : k < length c.in_ok-path.path.items = omega (arith, c.loop-at-test.true, c.loop-at.auto.at, c.len-at.ensures) in
    let state : c.index.result.now ≡ get_or (path_of d 0 w) k 0 = c.index.ensures ∙ get_or_default c.in_ok-path.path.items k c.index.result.now 0 inside ∙ ap (λ (ps : List ℕ). get_or ps k 0) c.in_ok-path.ensures in
    let same : s ≡ d = c.loop-at.invariant.same in
    let row : c.deref.result.now ≡ transitions_of d c.index.result.now = c.deref.ensures.value ∙ c.in_ok-transitions_into.ensures.transitions ∙ ap (λ (x : Automaton). transitions_of x c.index.result.now) same in
    let from : ℕ = c.from-greater.result + 1 in
    let greater : from ≡ suc (get_or w k 0) = omega (arith, c.from-greater.ensures) in
    let e : Transition = c.in-Some.transition in
    let found : first_live d (length (drop (k + 1) w)) (suc (get_or w k 0)) (transitions_of d (get_or (path_of d 0 w) k 0)) ≡ Some e
    = sym (first_live-greater d c.args.self.now.is_table w k within m from c.index.result.now c.deref.result.now refl greater state row)
    ∙ sym (ap (λ (x : Automaton). first_live x m from c.deref.result.now) same) ∙ sym c.in_ok-transition.ensures.first ∙ c.in-Some.is in
    let next : c.loop-at.at ≡ k + 1 = omega (arith, c.loop-at-test.true) in
    let none : raised_after d 0 (k + 1) w ≡ None = subst (λ (n : ℕ). raised_after d 0 n w ≡ None) next c.loop-at.invariant.none in
    let rest : m ≡ length (drop (k + 1) w) = omega (arith, length-drop (k + 1) w, within, length-path_of d w 0) in
    ap Some (c.in_ok-word_after.ensures.word
    ∙ ap (λ (x : Automaton). take k w ++ word_by x m e) (c.in_ok-transition.ensures.same ∙ same)
    ∙ ap (λ (n : ℕ). take k w ++ word_by d n e) rest)
    ∙ sym (raised-some d w k within none e found)

pub loop-at-preserved : goal.loop-at-preserved
loop-at-preserved c =
    let d : Automaton = c.args.self.now.dfa in
    let s : Automaton = c.loop-at.self.dfa in
    let w : List ℕ = c.args.word.now in
    let k : ℕ = c.loop-at.at - 1 in
    let m : ℕ = length w - 1 - k in
    let within : k < length (path_of d 0 w) = omega (arith, c.loop-at-test.true, c.loop-at.auto.at, c.len-at.ensures, ap (λ (ps : List ℕ). length ps) c.in_ok-path.ensures) in
    let inside : k < length c.in_ok-path.path.items = omega (arith, c.loop-at-test.true, c.loop-at.auto.at, c.len-at.ensures) in
    let state : c.index.result.now ≡ get_or (path_of d 0 w) k 0 = c.index.ensures ∙ get_or_default c.in_ok-path.path.items k c.index.result.now 0 inside ∙ ap (λ (ps : List ℕ). get_or ps k 0) c.in_ok-path.ensures in
    let same : s ≡ d = c.loop-at.invariant.same in
    let row : c.deref.result.now ≡ transitions_of d c.index.result.now = c.deref.ensures.value ∙ c.in_ok-transitions_into.ensures.transitions ∙ ap (λ (x : Automaton). transitions_of x c.index.result.now) same in
    let from : ℕ = c.from-greater.result + 1 in
    let greater : from ≡ suc (get_or w k 0) = omega (arith, c.from-greater.ensures) in
    let nothing : first_live d (length (drop (k + 1) w)) (suc (get_or w k 0)) (transitions_of d (get_or (path_of d 0 w) k 0)) ≡ None
    = sym (first_live-greater d c.args.self.now.is_table w k within m from c.index.result.now c.deref.result.now refl greater state row)
    ∙ sym (ap (λ (x : Automaton). first_live x m from c.deref.result.now) same) ∙ sym c.in_ok-transition.ensures.first ∙ c.in_default.is in
    let next : c.loop-at.at ≡ k + 1 = omega (arith, c.loop-at-test.true) in
    record {
      same = c.in_ok-transition.ensures.same ∙ same;
      none = raised_after-none d w k within (subst (λ (n : ℕ). raised_after d 0 n w ≡ None) next c.loop-at.invariant.none) nothing;
    }
