use Rattle.std.proofs.Common.{get_or}
use Rattle.std.proofs.lemmas.List.{get_or_default}
use Rattle.term_plans.specs.Planning.{placed_plan, placed_at}
use Rattle.term_plans.specs.declared.multiples.Scaling.{Scaling}
use Rattle.term_plans.specs.declared.multiples.Scaling.TheVariants.{Times}
use Rattle.term_plans.proofs.MultiplesMade.{scaled_more}
use Rattle.term_plans.proofs.multiples.scaled_by_all.Goals as goal

first : Scaling
first = Times 0

pub loop-scaling-preserved : goal.loop-scaling-preserved
unfolding first
loop-scaling-preserved c =
    scaled_more c.args.planner.now c.loop-scaling.planner c.scaled.new.planner c.loop-scaling.product c.in_ok-product.product c.args.system.now
    (placed_plan (placed_at c.args.planner.now.plans c.args.value) c.args.planner.now.next) c.args.scalings.now c.loop-scaling.scaling-index (get_or c.args.scalings.now c.loop-scaling.scaling-index first)
    c.loop-scaling-test.true (get_or_default c.args.scalings.now c.loop-scaling.scaling-index first (get_or c.args.scalings.now c.loop-scaling.scaling-index first) c.loop-scaling-test.true)
    c.loop-scaling.invariant c.in_ok-product.ensures
