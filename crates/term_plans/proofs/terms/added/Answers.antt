use Rattle.std.proofs.Common.{Some, refl, sym, subst}
use Rattle.term_plans.specs.Planning.{IsWithin, placed_at}
use Rattle.term_plans.specs.TermPlanning.{IsSumWithin}
use Rattle.term_plans.specs.declared.track.Track.TheVariants.{Fresh}
use Rattle.term_plans.proofs.PlanningLemmas.{within_later}
use Rattle.term_plans.proofs.TermsMade.{sum_does, sum_answers}
use Rattle.term_plans.proofs.terms.added.Goals as goal

pub returns : goal.returns
returns c =
    sum_answers c.args.system.now c.args.planner.now.plans c.args.before c.in-Some.before (placed_at c.args.planner.now.plans c.args.value) c.args.planner.now.next c.args.planner.now c.close-2.new.self
    (record { track = Fresh c.in_ok-fresh.field-0; relation = Some c.in_ok-closed.closed }) c.in-Some.is
    (sum_does c.args.planner.now c.fresh.new.self c.sum_base.new.planner c.close.new.self c.close-2.new.self c.in-Some.before c.args.value (record { track = Fresh c.in_ok-fresh.field-0; relation = Some c.in_ok-closed.closed })
    c.in_ok-base.base c.in_ok-half.half c.in_ok-closed.closed c.in_ok-fresh.field-0 c.args.system.now
    (subst (IsSumWithin c.args.planner.now.plans) c.in-Some.is c.requires.before) c.requires.value
    c.in_ok-fresh.ensures.0 c.in_ok-fresh.ensures.1 c.in_ok-fresh.ensures.2 c.in_ok-base.ensures c.in_ok-half.ensures c.in_ok-closed.ensures c.in_ok-closed.ensures.last.within refl)

pub close-requires-clause-base : goal.close-requires-clause-base
close-requires-clause-base c = c.in_ok-base.ensures.last.within

pub close-requires-clause-placed : goal.close-requires-clause-placed
close-requires-clause-placed c =
    within_later c.fresh.new.self.plans c.sum_base.new.planner.plans _ c.in-Some.before.sum.relation c.in_ok-base.ensures.adds
    (subst (λ plans. IsWithin plans c.in-Some.before.sum.relation) (sym c.in_ok-fresh.ensures.2) (subst (IsSumWithin c.args.planner.now.plans) c.in-Some.is c.requires.before))

pub close-requires-2-clause-base : goal.close-requires-2-clause-base
close-requires-2-clause-base c = c.in_ok-half.ensures.last.within

pub close-requires-2-clause-placed : goal.close-requires-2-clause-placed
close-requires-2-clause-placed c =
    within_later c.sum_base.new.planner.plans c.close.new.self.plans _ c.args.value.relation c.in_ok-half.ensures.adds
    (within_later c.fresh.new.self.plans c.sum_base.new.planner.plans _ c.args.value.relation c.in_ok-base.ensures.adds
    (subst (λ plans. IsWithin plans c.args.value.relation) (sym c.in_ok-fresh.ensures.2) c.requires.value))
