use Rattle.plan_relations.proofs.NeededLemmas.{IsMarkedFrom}
use Rattle.plan_relations.proofs.needed.needed_plans.Given as goal

-- the plans from this place on were looked at
abbrev pub invariant-loop-place : goal.invariant-loop-place
invariant-loop-place l = IsMarkedFrom l.makings l.last l.place l.needed.items
