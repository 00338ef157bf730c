use Rattle.plan_relations.specs.KnownViews.{known_value}
use Rattle.std.proofs.Common.{◌≡◌, length}
use Rattle.term_plans.specs.Makings.{AreMakingsOf, plan_at}
use Rattle.plan_relations.specs.MadeOf.{AreNeeded}
use Rattle.plan_relations.proofs.BuildingLemmas.{IsUnderWay}
use Rattle.plan_relations.proofs.plan_making.make_plans.Given as goal

-- the needed plans so far were made, by their steps
abbrev pub invariant-loop-place : goal.invariant-loop-place
invariant-loop-place l = record {
  so_far : IsUnderWay l.fn.steps (known_value l.known) l.plans (plan_at l.plans l.last) l.needed.items l.made.items l.steps;
  count : length l.made.items ≡ l.place;
  makings : AreMakingsOf l.plans l.makings;
  needed : AreNeeded l.plans l.makings l.last l.needed.items;
}
