use Rattle.std.proofs.Common.{◌≡◌, ◌-◌, ◌++◌, ℕ, suc, List, Some, None, sym, ap, ◌∙◌, arith}
use Rattle.digit_tuple.specs.declared.transitions.Transition.{Transition}
use Rattle.digit_tuple.specs.Deterministic.{Automaton, transitions_of}
use Rattle.word_walk.specs.Levels.{first_live, least_word}
use Rattle.word_walk.proofs.CodeLemmas.{first_live-within}
use Rattle.word_walk.proofs.LeastLemmas.{least_word-end, least_word-more}
use Rattle.word_walk.proofs.listing.Listing.push_least.Goals as goal

pub loop-rest-preserved : goal.loop-rest-preserved
loop-rest-preserved c =
    let d : Automaton = c.args.self.now.dfa in
    let table = c.args.self.now.is_table in
    let s : Automaton = c.loop-rest.self.dfa in
    let k : ℕ = c.loop-rest.rest - 1 in
    let q : ℕ = c.loop-rest.from in
    let e : Transition = c.in-Some.transition in
    let same : s ≡ d = c.loop-rest.invariant.same in
    let more : c.loop-rest.rest ≡ suc k = omega (arith, c.loop-rest-test.true) in
    let row : c.deref.result.now ≡ transitions_of s q = c.deref.ensures.value ∙ c.in_ok-transitions_into.ensures.transitions in
    let found : first_live d k 0 (transitions_of d q) ≡ Some e = sym (ap (λ (x : Automaton). first_live x k 0 (transitions_of x q)) same) ∙ sym (ap (first_live s k 0) row) ∙ sym c.in_ok-transition.ensures.first ∙ c.in-Some.is in
    record {
      same = c.in_ok-transition.ensures.same ∙ same;
      within = first_live-within d table k 0 q e c.loop-rest.invariant.within found;
      word = ap (λ (w : List ℕ). w ++ least_word d k e.target) c.in_ok-push-in-Some.ensures.items
          ∙ least_word-more d k q c.loop-rest.word.items e found
          ∙ ap (λ (n : ℕ). c.loop-rest.word.items ++ least_word d n q) (sym more)
          ∙ c.loop-rest.invariant.word;
    }

pub returns-in-None-clause-word : goal.returns-in-None-clause-word
returns-in-None-clause-word c =
    let d : Automaton = c.args.self.now.dfa in
    let s : Automaton = c.loop-rest.self.dfa in
    let k : ℕ = c.loop-rest.rest - 1 in
    let q : ℕ = c.loop-rest.from in
    let same : s ≡ d = c.loop-rest.invariant.same in
    let more : c.loop-rest.rest ≡ suc k = omega (arith, c.loop-rest-test.true) in
    let row : c.deref.result.now ≡ transitions_of s q = c.deref.ensures.value ∙ c.in_ok-transitions_into.ensures.transitions in
    let none : first_live d k 0 (transitions_of d q) ≡ None = sym (ap (λ (x : Automaton). first_live x k 0 (transitions_of x q)) same) ∙ sym (ap (first_live s k 0) row) ∙ sym c.in_ok-transition.ensures.first ∙ c.in-None.is in
    least_word-end d k q c.loop-rest.word.items none
    ∙ ap (λ (n : ℕ). c.loop-rest.word.items ++ least_word d n q) (sym more)
    ∙ c.loop-rest.invariant.word
