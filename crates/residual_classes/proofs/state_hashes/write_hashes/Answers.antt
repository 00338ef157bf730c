use Rattle.std.proofs.Common.{◌<◌, length, length-set, get_or-set_same, get_or-set_other, below_more, ap, ◌∙◌, arith}
use Rattle.std.specs.List.{sum_by}
use Rattle.std.proofs.lemmas.List.{take_all}
use Rattle.digit_tuple.specs.Deterministic.{State}
use Rattle.residual_classes.specs.LookCounts.{looked_at}
use Rattle.residual_classes.proofs.LookLemmas.{all_looked_at-more}
use Rattle.residual_classes.proofs.state_hashes.write_hashes.Goals as goal

pub loop-state-preserved : goal.loop-state-preserved
loop-state-preserved g c =
    let part = c.args.part.now in
    let out = c.loop-state.out.items in
    let q = c.loop-state.state in
    let inside : q < length out = omega (arith, c.loop-state-test.true, c.loop-state.invariant.width) in
    record {
      width = length-set out q _ ∙ c.loop-state.invariant.width;
      are = below_more _ _ (λ p less. get_or-set_other out q p _ 0 (λ is. omega (arith, is, less)) ∙ c.loop-state.invariant.are p less) (get_or-set_same out q _ 0 inside ∙ c.state_hash.ensures.hash);
      looks = omega (arith, c.state_hash.ensures.looks, c.loop-state.invariant.looks, all_looked_at-more part.span.first part.span.end part.dfa.now q);
    }

pub returns-clause-looks : goal.returns-clause-looks
returns-clause-looks g c =
    let part = c.args.part.now in
    omega (arith, c.loop-state.invariant.looks, ap (sum_by (λ (s : State). looked_at part.span.first part.span.end s.transitions)) (take_all c.loop-state.state part.dfa.now.states (omega (arith, c.loop-state-test.false, c.requires.width))))
