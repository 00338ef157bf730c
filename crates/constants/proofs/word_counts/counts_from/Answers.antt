use Rattle.std.proofs.Common.{◌≡◌, ℕ, suc, ◌+◌, ◌<◌, List, length, get_or, sym, ap, ◌∙◌, subst, arith}
use Rattle.std.specs.List.{sum_by}
use Rattle.std.proofs.lemmas.List.{length_push}
use Rattle.digit_tuple.specs.declared.transitions.Transition.{Transition}
use Rattle.digit_tuple.specs.declared.direction.Direction.TheVariants.{Msd}
use Rattle.constants.specs.WordCounts.{capped, words_at}
use Rattle.constants.proofs.CountSteps.{counts_from-suc}
use Rattle.constants.proofs.RowLemmas.{entries-push}
use Rattle.constants.proofs.word_counts.counts_from.Goals as goal

pub loop-state-preserved : goal.loop-state-preserved
loop-state-preserved c =
    let a = c.args.language.now in
    let row = c.args.row.now in
    let state = c.loop-state.state in
    let inside : state < length a.states = omega (arith, c.loop-state-test.true, c.loop-state.auto.state-end, c.states-state-end.ensures.value) in
    record {
      long = ap length c.in_ok-push.ensures.items ∙ length_push c.loop-state.next.items c.sum_along.result ∙ ap (λ k. k + 1) c.loop-state.invariant.long;
      counts = λ n q are within.
          subst (λ (xs : List ℕ). get_or xs q 0 ≡ capped (words_at Msd a (suc n) q)) (sym c.in_ok-push.ensures.items)
          (entries-push (λ p. capped (words_at Msd a (suc n) p)) 0 c.loop-state.next.items state c.sum_along.result c.loop-state.invariant.long (λ p less. c.loop-state.invariant.counts n p are less)
          (c.sum_along.ensures ∙ ap (λ (es : List Transition). capped (sum_by (λ e. get_or row e.target 0) es)) (c.deref.ensures.value ∙ c.in_ok-transitions_into.ensures.transitions) ∙ counts_from-suc a n state row c.in_ok-transitions_into.ensures.table inside are)
          q within);
    }
