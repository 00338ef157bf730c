use Rattle.std.proofs.Common.{take}
use Rattle.term_plans.specs.Makings.{plan_at}
use Rattle.term_plans.specs.Planning.{Does, places_at, closed_all_made}
use Rattle.term_plans.proofs.planner.Planner.close_all.Given as goal

abbrev pub invariant-loop-one : goal.invariant-loop-one
invariant-loop-one l = Does l.initial.self l.self l.closed (closed_all_made l.initial.self.next (places_at l.initial.self.plans (take l.one-index l.placed)) (plan_at l.initial.self.plans l.base))
