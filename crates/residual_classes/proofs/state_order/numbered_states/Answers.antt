use Rattle.std.proofs.Common.{◌∷◌, ◌++◌, [], List, ℕ, sym, ap, ◌∙◌, arith}
use Rattle.std.specs.List.{range_with_len}
use Rattle.digit_tuple.proofs.RangeLemmas.{range_more}
use Rattle.residual_classes.proofs.state_order.numbered_states.Goals as goal

pub loop-state-preserved : goal.loop-state-preserved
loop-state-preserved c =
    c.in_ok-push.ensures.items ∙ ap (λ (states : List ℕ). states ++ c.loop-state.state ∷ []) c.loop-state.invariant ∙ sym (range_more c.loop-state.state)

pub returns : goal.returns
returns c = c.loop-state.invariant ∙ ap (range_with_len 0) (omega (arith, c.loop-state-test.false, c.loop-state.auto.state-end))
