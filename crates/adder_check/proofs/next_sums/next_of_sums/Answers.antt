use Rattle.std.proofs.Common.{subst, sym}
use Rattle.std.specs.List.{Contains}
use Rattle.std.proofs.lemmas.Result.{IfOk-weaker, err_from_is_err_and}
use Rattle.num_system.specs.SuccessorSteps.{name_x, name_y, order_on}
use Rattle.adder_check.specs.AdderRelation.{name_z}
use Rattle.adder_check.specs.NextSums.{name_w, sum_on}
use Rattle.adder_check.proofs.BothSteps.{both_done, both_out, both_refused}
use Rattle.adder_check.proofs.HandedOn.{handed_on}
use Rattle.adder_check.proofs.PlanLemmas.{projected}
use Rattle.adder_check.proofs.NextSumSizes.{of_sums_agree, of_sums_projected, of_sums_there}
use Rattle.adder_check.proofs.NextSumLemmas.{of_sums_holds}
use Rattle.adder_check.proofs.next_sums.next_of_sums.Goals as goal

pub join_step-requires-clause-agree : goal.join_step-requires-clause-agree
join_step-requires-clause-agree c =
    of_sums_agree c.args.adder.now c.args.next.now c.requires.tracks.0 c.requires.tracks.1 c.requires.tracks.2 c.in_ok-sum.sum c.in_ok-following.following c.in_ok-sum.ensures c.in_ok-following.ensures

pub project_step-requires : goal.project_step-requires
project_step-requires c = record {
  there = subst (Contains c.in_ok-joined.joined.names) (sym c.in_ok-w.ensures)
      (of_sums_there c.args.adder.now c.args.next.now c.in_ok-sum.sum c.in_ok-following.following c.in_ok-joined.joined c.in_ok-sum.ensures c.in_ok-following.ensures c.in_ok-joined.ensures.step.made_is);
}

pub returns-clause-steps : goal.returns-clause-steps
returns-clause-steps c =
    both_done c.args.direction name_w (sum_on c.args.adder.now name_x name_y name_w) (order_on c.args.next.now name_w name_z) c.args.steps.now c.project_step.result c.in_ok-sum.sum c.in_ok-following.following c.in_ok-sum.ensures c.in_ok-following.ensures c.project_step.new.steps c.in_ok-joined.joined
    c.join_step.new.steps c.in_ok-w.w c.in_ok-w.ensures c.in_ok-joined.ensures c.project_step.ensures

pub returns-clause-sizes : goal.returns-clause-sizes
returns-clause-sizes c =
    IfOk-weaker c.project_step.result _ _
    (λ sums made. of_sums_projected c.args.direction c.args.adder.now c.args.next.now c.in_ok-sum.sum c.in_ok-following.following c.in_ok-joined.joined sums c.requires.tracks.0 c.requires.tracks.1 c.requires.tracks.2 c.in_ok-sum.ensures
    c.in_ok-following.ensures c.in_ok-joined.ensures.step.made_is made)
    (projected c.join_step.new.steps c.project_step.new.steps c.args.direction _ name_w c.in_ok-joined.joined c.project_step.result c.in_ok-w.ensures c.project_step.ensures)

pub returns-clause-sums : goal.returns-clause-sums
returns-clause-sums c =
    IfOk-weaker c.project_step.result _ _
    (λ sums made s test system adds follows. of_sums_holds c.args.direction s system test c.args.adder.now c.args.next.now adds follows c.in_ok-sum.sum c.in_ok-following.following c.in_ok-joined.joined sums c.in_ok-sum.ensures
    c.in_ok-following.ensures c.in_ok-joined.ensures.step.made_is made)
    (projected c.join_step.new.steps c.project_step.new.steps c.args.direction _ name_w c.in_ok-joined.joined c.project_step.result c.in_ok-w.ensures c.project_step.ensures)

pub returns-in_err-w-clause-steps : goal.returns-in_err-w-clause-steps
returns-in_err-w-clause-steps c = both_out c.args.direction name_w (sum_on c.args.adder.now name_x name_y name_w) (order_on c.args.next.now name_w name_z) c.args.steps.now c.from_residual.result (handed_on _ c.from_residual.result c.from_residual.ensures.1)

pub returns-in_err-w-clause-sizes : goal.returns-in_err-w-clause-sizes
returns-in_err-w-clause-sizes c = let p = err_from_is_err_and c.from_residual.result c.from_residual.ensures.1 in rw p.1 tt

pub returns-in_err-w-clause-sums : goal.returns-in_err-w-clause-sums
returns-in_err-w-clause-sums c = let p = err_from_is_err_and c.from_residual.result c.from_residual.ensures.1 in rw p.1 tt

pub returns-in_err-sum-clause-steps : goal.returns-in_err-sum-clause-steps
returns-in_err-sum-clause-steps c = both_out c.args.direction name_w (sum_on c.args.adder.now name_x name_y name_w) (order_on c.args.next.now name_w name_z) c.args.steps.now c.from_residual-in_err-sum.result (handed_on _ c.from_residual-in_err-sum.result c.from_residual-in_err-sum.ensures.1)

pub returns-in_err-sum-clause-sizes : goal.returns-in_err-sum-clause-sizes
returns-in_err-sum-clause-sizes c = let p = err_from_is_err_and c.from_residual-in_err-sum.result c.from_residual-in_err-sum.ensures.1 in rw p.1 tt

pub returns-in_err-sum-clause-sums : goal.returns-in_err-sum-clause-sums
returns-in_err-sum-clause-sums c = let p = err_from_is_err_and c.from_residual-in_err-sum.result c.from_residual-in_err-sum.ensures.1 in rw p.1 tt

pub returns-in_err-following-clause-steps : goal.returns-in_err-following-clause-steps
returns-in_err-following-clause-steps c = both_out c.args.direction name_w (sum_on c.args.adder.now name_x name_y name_w) (order_on c.args.next.now name_w name_z) c.args.steps.now c.from_residual-in_err-following.result (handed_on _ c.from_residual-in_err-following.result c.from_residual-in_err-following.ensures.1)

pub returns-in_err-following-clause-sizes : goal.returns-in_err-following-clause-sizes
returns-in_err-following-clause-sizes c = let p = err_from_is_err_and c.from_residual-in_err-following.result c.from_residual-in_err-following.ensures.1 in rw p.1 tt

pub returns-in_err-following-clause-sums : goal.returns-in_err-following-clause-sums
returns-in_err-following-clause-sums c = let p = err_from_is_err_and c.from_residual-in_err-following.result c.from_residual-in_err-following.ensures.1 in rw p.1 tt

pub returns-in_err-joined-clause-steps : goal.returns-in_err-joined-clause-steps
returns-in_err-joined-clause-steps c =
    both_refused c.args.direction name_w (sum_on c.args.adder.now name_x name_y name_w) (order_on c.args.next.now name_w name_z) c.args.steps.now c.from_residual-in_err-joined.result c.in_ok-sum.sum c.in_ok-following.following c.in_ok-sum.ensures c.in_ok-following.ensures c.join_step.new.steps c.in_err-joined.field-0.0
    c.in_err-joined.ensures (handed_on _ c.from_residual-in_err-joined.result c.from_residual-in_err-joined.ensures.1)

pub returns-in_err-joined-clause-sizes : goal.returns-in_err-joined-clause-sizes
returns-in_err-joined-clause-sizes c = let p = err_from_is_err_and c.from_residual-in_err-joined.result c.from_residual-in_err-joined.ensures.1 in rw p.1 tt

pub returns-in_err-joined-clause-sums : goal.returns-in_err-joined-clause-sums
returns-in_err-joined-clause-sums c = let p = err_from_is_err_and c.from_residual-in_err-joined.result c.from_residual-in_err-joined.ensures.1 in rw p.1 tt
