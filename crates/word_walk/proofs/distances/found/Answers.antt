use Rattle.std.proofs.Common.{ℕ, ◌<◌, length, get_or, sym, ◌∙◌, subst, arith}
use Rattle.std.specs.List.{All}
use Rattle.std.proofs.lemmas.List.{get_or_default}
use Rattle.word_walk.proofs.distances.found.Goals as goal

pub loop-at-init : goal.loop-at-init
loop-at-init c = record {
  width = c.in_ok-distances.ensures;
  queue = λ k z inside. ((c.in_ok-queue.ensures.members (get_or c.in_ok-queue.queue.items k z)).0 (k, inside, get_or_default c.in_ok-queue.queue.items k (get_or c.in_ok-queue.queue.items k z) z inside)).0;
}

pub transitions-requires : goal.transitions-requires
transitions-requires c =
    let within : c.loop-at.at < length c.loop-at.queue.items = omega (arith, c.if-at-len.false, c.len.ensures) in
    let state = c.index-state.ensures ∙ get_or_default c.loop-at.queue.items c.loop-at.at c.index-state.result.now 0 within in
    omega (arith, state, c.loop-at.invariant.queue c.loop-at.at 0 within, c.in_ok-backwards.ensures.reversal.states)

pub reach-requires-clause-sources : goal.reach-requires-clause-sources
reach-requires-clause-sources c = λ k z inside. omega (arith, (c.transitions.ensures.row.in_range k z inside).1, c.in_ok-backwards.ensures.reversal.states, c.loop-at.invariant.width)

pub reach-requires-clause-queue : goal.reach-requires-clause-queue
reach-requires-clause-queue c = subst (λ (n : ℕ). All (λ (q : ℕ). q < n) c.loop-at.queue.items) (sym c.loop-at.invariant.width) c.loop-at.invariant.queue

pub loop-at-preserved : goal.loop-at-preserved
loop-at-preserved c = record {
  width = c.in_ok-reach.ensures.width ∙ c.loop-at.invariant.width;
  queue = subst (λ (n : ℕ). All (λ (q : ℕ). q < n) c.reach.new.queue.items) c.loop-at.invariant.width c.in_ok-reach.ensures.queue;
}
