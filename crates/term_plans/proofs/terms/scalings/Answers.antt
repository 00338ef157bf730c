use Rattle.std.proofs.Common.{arith, ap, ◌∙◌, sym, map}
use Rattle.std.specs.Option.{option_map}
use Rattle.term_plans.specs.TermPlanning.{scaling_view}
use Rattle.term_plans.proofs.TermsMade.{scalings_more, scalings_same}
use Rattle.term_plans.proofs.terms.scalings.Goals as goal
use Rattle.term_plans.proofs.terms.scalings.Goals.{in-Some+in_ok-push, in_default}

pub loop-factor-preserved : goal.loop-factor-preserved
loop-factor-preserved c = elim c.match-scaling_of.branch [
  | in-Some+in_ok-push w ↦ λ s.
      scalings_more s c.args.factors.now c.loop-factor.factor-index w.in-Some.scaling c.factor-item.result c.loop-factor.found.items c.match-scaling_of.found.items
      (omega (arith, c.loop-factor-test.true)) c.factor-item.is (c.scaling_of.ensures ∙ ap (option_map scaling_view) w.in-Some.is) (c.loop-factor.invariant s)
      (ap (λ v. v.items) w.found-is ∙ w.in_ok-push.ensures.items)
  | in_default w ↦ λ s.
      scalings_same s c.args.factors.now c.loop-factor.factor-index c.factor-item.result c.match-scaling_of.found.items
      (omega (arith, c.loop-factor-test.true)) c.factor-item.is (c.scaling_of.ensures ∙ ap (option_map scaling_view) w.in_default.is) (c.loop-factor.invariant s ∙ sym (ap (λ v. map scaling_view v.items) w.found-is))
]
