use Rattle.std.proofs.Common.{ℕ, ◌<◌, sym, ◌∙◌, subst}
use Rattle.std.specs.List.{All}
use Rattle.word_walk.proofs.distances.reach.Goals as goal

pub put-requires-clause-queue : goal.put-requires-clause-queue
put-requires-clause-queue c = subst (λ (n : ℕ). All (λ (q : ℕ). q < n) c.loop-transition.queue.items) (sym c.loop-transition.invariant.width) c.loop-transition.invariant.queue

pub loop-transition-preserved : goal.loop-transition-preserved
loop-transition-preserved c = record {
  width = c.in_ok-put.ensures.width ∙ c.loop-transition.invariant.width;
  queue = subst (λ (n : ℕ). All (λ (q : ℕ). q < n) c.put.new.queue.items) c.loop-transition.invariant.width c.in_ok-put.ensures.queue;
}
