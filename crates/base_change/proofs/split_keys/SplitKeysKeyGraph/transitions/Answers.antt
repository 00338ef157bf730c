use Rattle.std.proofs.Common.{ℕ, List, ◌∙◌}
use Rattle.base_change.specs.GroupKeys.{split_next}
use Rattle.base_change.proofs.StepLemmas.{one_transition_more}
use Rattle.base_change.proofs.split_keys.SplitKeysKeyGraph.transitions.Goals as goal

pub loop-digit-preserved : goal.loop-digit-preserved
loop-digit-preserved c =
    let keys = c.args.self.now in
    let next : ℕ → List ℕ = split_next keys.dfa.now keys.root keys.digits c.args.key.now in
    one_transition_more next c.loop-digit.digit c.loop-digit.out c.push.new.self c.deref.result.now c.loop-digit.invariant (c.deref.ensures.value ∙ c.in_ok-write_next.ensures) c.in_ok-push.ensures.ok
