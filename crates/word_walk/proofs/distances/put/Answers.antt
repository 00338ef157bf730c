use Rattle.std.proofs.Common.{ℕ, ◌<◌, length, sym, subst}
use Rattle.std.specs.List.{All}
use Rattle.std.proofs.lemmas.List.Elements.{All-push}
use Rattle.word_walk.proofs.distances.put.Goals as goal

pub returns-in_ok-push-clause-queue : goal.returns-in_ok-push-clause-queue
returns-in_ok-push-clause-queue c =
    subst (All (λ (q : ℕ). q < length c.args.distances.now.items)) (sym c.in_ok-push.ensures.items)
    (All-push (λ (q : ℕ). q < length c.args.distances.now.items) c.args.queue.now.items c.args.state c.requires.queue c.requires.state)
