use Rattle.std.proofs.Common.{length, subst, sym}
use Rattle.term_plans.specs.Makings.{IsOf}
use Rattle.term_plans.proofs.MakingLemmas.{makings_pushed}
use Rattle.term_plans.proofs.list.PlanList.push.Goals as goal

pub invariant_of-self-2 : goal.invariant_of-self-2
invariant_of-self-2 c =
    makings_pushed c.self.inside.makings.items c.push.new.self.items c.args.making c.in_ok-push.ensures.items c.self.invariant
    (subst (λ plans. IsOf (length plans) c.args.making) (sym c.self.view_is) c.requires)
