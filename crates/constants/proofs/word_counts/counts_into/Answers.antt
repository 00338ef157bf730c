use Rattle.std.proofs.Common.{◌≡◌, ℕ, ◌+◌, ◌<◌, List, cond, nat_eq, length, take, drop, ◌++◌, get_or, sym, ap, ◌∙◌, subst, arith, add-one}
use Rattle.std.specs.List.{sum_by}
use Rattle.std.proofs.Math.Seq.{take-append_seam}
use Rattle.digit_tuple.specs.declared.transitions.Transition.{Transition}
use Rattle.digit_tuple.specs.Deterministic.{states_of}
use Rattle.numeration.proofs.CountLemmas.{sum_below}
use Rattle.constants.specs.WordCounts.{capped}
use Rattle.constants.proofs.CountSteps.{brought, brought-more, words_into-suc}
use Rattle.constants.proofs.word_counts.counts_into.Goals as goal

pub loop-state-preserved : goal.loop-state-preserved
loop-state-preserved c =
    let a = c.args.language.now in
    let row = c.args.row.now in
    let state = c.loop-state.state in
    let old = c.loop-state.next.items in
    let new = c.add_along.new.next in
    let inside : state < states_of a = omega (arith, c.loop-state-test.true, c.loop-state.auto.state-end, c.states-state-end.ensures.value) in
    let kept : length new ≡ length old = c.add_along.auto.next ∙ ap length c.deref_mut.ensures.value in
    let len : c.loop-state.next.len ≡ length new = sym (c.add_along.auto.next ∙ c.deref_mut.ensures.len) in
    let same : take c.loop-state.next.len (new ++ drop (length new) old) ≡ new = ap (λ k. take k (new ++ drop (length new) old)) len ∙ take-append_seam new (drop (length new) old) in
    record {
      long = ap length same ∙ kept ∙ c.loop-state.invariant.long;
      counts = λ n p are within.
          subst (λ (xs : List ℕ). get_or xs p 0 ≡ capped (sum_below (λ q. brought a n p q) (state + 1))) (sym same)
          (let before : ℕ = sum_below (λ q. brought a n p q) state in
          let was : get_or old p 0 ≡ capped before = c.loop-state.invariant.counts n p are within in
          let below : p < length c.deref_mut.result.now = subst (λ k. p < k) (sym (ap length c.deref_mut.ensures.value ∙ c.loop-state.invariant.long)) within in
          let first : get_or c.deref_mut.result.now p 0 ≡ capped before = ap (λ (xs : List ℕ). get_or xs p 0) c.deref_mut.ensures.value ∙ was in
          c.add_along.ensures p before below first
          ∙ ap (λ (es : List Transition). capped (before + sum_by (λ e. cond {A = ℕ} (nat_eq e.target p) (get_or row state 0) 0) es)) (c.deref.ensures.value ∙ c.in_ok-transitions_into.ensures.transitions)
          ∙ brought-more a n p state (get_or row state 0) before (are.counts state inside)
          ∙ ap (λ k. capped (sum_below (λ q. brought a n p q) k)) (sym (add-one state)));
    }

pub returns : goal.returns
returns c = λ n are.
    let a = c.args.language.now in
    let all : c.loop-state.state ≡ states_of a = omega (arith, c.loop-state-test.false, c.loop-state.auto.state-end, c.states-state-end.ensures.value) in
    record {
      long = c.loop-state.invariant.long;
      counts = λ p within.
          c.loop-state.invariant.counts n p are within
          ∙ ap (λ k. capped (sum_below (λ q. brought a n p q) k)) all
          ∙ ap capped (sym (words_into-suc a n p c.states-state-end.ensures.table));
    }
