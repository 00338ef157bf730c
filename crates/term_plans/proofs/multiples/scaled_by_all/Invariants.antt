use Rattle.std.proofs.Common.{map, take}
use Rattle.term_plans.specs.TermPlans.{scaled_all}
use Rattle.term_plans.specs.TermPlanning.{scaling_view}
use Rattle.term_plans.specs.Planning.{DoesTerm, placed_plan, placed_at}
use Rattle.term_plans.proofs.multiples.scaled_by_all.Given as goal

abbrev pub invariant-loop-scaling : goal.invariant-loop-scaling
invariant-loop-scaling l =
    DoesTerm l.initial.planner l.planner l.product (scaled_all l.system (placed_plan (placed_at l.initial.planner.plans l.initial.product) l.initial.planner.next) (map scaling_view (take l.scaling-index l.scalings)))
