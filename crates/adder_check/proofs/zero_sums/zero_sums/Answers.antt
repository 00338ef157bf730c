use Rattle.std.proofs.Common.{refl, sym, subst}
use Rattle.std.specs.List.{Contains}
use Rattle.std.proofs.lemmas.Result.{IfOk-weaker, err_from_is_err_and}
use Rattle.num_system.specs.SuccessorSteps.{name_y}
use Rattle.adder_check.specs.ZeroSums.{on_y}
use Rattle.adder_check.proofs.BothSteps.{both_done, both_out, both_refused}
use Rattle.adder_check.proofs.HandedOn.{handed_on}
use Rattle.adder_check.proofs.PlanLemmas.{projected}
use Rattle.adder_check.proofs.ZeroSumLemmas.{zero_agree, zero_sums_hold, zero_sums_sizes, zero_there}
use Rattle.adder_check.proofs.zero_sums.zero_sums.Goals as goal

pub join_step-requires-clause-agree : goal.join_step-requires-clause-agree
join_step-requires-clause-agree c =
    zero_agree c.args.adder.now c.in_ok-zero_y.zero_y c.args.zero.now c.requires.tracks.0 c.requires.names c.requires.tracks.1 c.requires.tracks.2 c.in_ok-zero_y.ensures

pub project_step-requires : goal.project_step-requires
project_step-requires c = record {
  there = subst (Contains c.in_ok-joined.joined.names) (sym c.in_ok-y.ensures) (zero_there c.args.adder.now c.in_ok-zero_y.zero_y c.in_ok-joined.joined c.args.zero.now c.requires.names c.in_ok-zero_y.ensures c.in_ok-joined.ensures.step.made_is);
}

pub returns-clause-steps : goal.returns-clause-steps
returns-clause-steps c =
    both_done c.args.direction name_y c.args.adder.now (on_y c.args.zero.now) c.args.steps.now c.project_step.result c.args.adder.now c.in_ok-zero_y.zero_y refl c.in_ok-zero_y.ensures c.project_step.new.steps
    c.in_ok-joined.joined c.join_step.new.steps c.in_ok-y.y c.in_ok-y.ensures c.in_ok-joined.ensures c.project_step.ensures

pub returns-clause-sizes : goal.returns-clause-sizes
returns-clause-sizes c =
    IfOk-weaker c.project_step.result _ _
    (λ sums made. zero_sums_sizes c.args.direction c.args.adder.now c.in_ok-zero_y.zero_y c.in_ok-joined.joined sums c.args.zero.now c.requires.tracks.0 c.requires.tracks.1 c.requires.tracks.2 c.requires.names c.in_ok-zero_y.ensures
    c.in_ok-joined.ensures.step.made_is made)
    (projected c.join_step.new.steps c.project_step.new.steps c.args.direction _ name_y c.in_ok-joined.joined c.project_step.result c.in_ok-y.ensures c.project_step.ensures)

pub returns-clause-sums : goal.returns-clause-sums
returns-clause-sums c =
    IfOk-weaker c.project_step.result _ _
    (λ sums made s test system adds nothing.
    zero_sums_hold c.args.direction s test c.args.adder.now c.in_ok-zero_y.zero_y c.in_ok-joined.joined sums c.args.zero.now system adds nothing c.requires.names c.in_ok-zero_y.ensures c.in_ok-joined.ensures.step.made_is made)
    (projected c.join_step.new.steps c.project_step.new.steps c.args.direction _ name_y c.in_ok-joined.joined c.project_step.result c.in_ok-y.ensures c.project_step.ensures)

pub returns-in_err-y-clause-steps : goal.returns-in_err-y-clause-steps
returns-in_err-y-clause-steps c = both_out c.args.direction name_y c.args.adder.now (on_y c.args.zero.now) c.args.steps.now c.from_residual.result (handed_on _ c.from_residual.result c.from_residual.ensures.1)

pub returns-in_err-y-clause-sizes : goal.returns-in_err-y-clause-sizes
returns-in_err-y-clause-sizes c = let p = err_from_is_err_and c.from_residual.result c.from_residual.ensures.1 in rw p.1 tt

pub returns-in_err-y-clause-sums : goal.returns-in_err-y-clause-sums
returns-in_err-y-clause-sums c = let p = err_from_is_err_and c.from_residual.result c.from_residual.ensures.1 in rw p.1 tt

pub returns-in_err-zero_y-clause-steps : goal.returns-in_err-zero_y-clause-steps
returns-in_err-zero_y-clause-steps c = both_out c.args.direction name_y c.args.adder.now (on_y c.args.zero.now) c.args.steps.now c.from_residual-in_err-zero_y.result (handed_on _ c.from_residual-in_err-zero_y.result c.from_residual-in_err-zero_y.ensures.1)

pub returns-in_err-zero_y-clause-sizes : goal.returns-in_err-zero_y-clause-sizes
returns-in_err-zero_y-clause-sizes c = let p = err_from_is_err_and c.from_residual-in_err-zero_y.result c.from_residual-in_err-zero_y.ensures.1 in rw p.1 tt

pub returns-in_err-zero_y-clause-sums : goal.returns-in_err-zero_y-clause-sums
returns-in_err-zero_y-clause-sums c = let p = err_from_is_err_and c.from_residual-in_err-zero_y.result c.from_residual-in_err-zero_y.ensures.1 in rw p.1 tt

pub returns-in_err-joined-clause-sizes : goal.returns-in_err-joined-clause-sizes
returns-in_err-joined-clause-sizes c = let p = err_from_is_err_and c.from_residual-in_err-joined.result c.from_residual-in_err-joined.ensures.1 in rw p.1 tt

pub returns-in_err-joined-clause-sums : goal.returns-in_err-joined-clause-sums
returns-in_err-joined-clause-sums c = let p = err_from_is_err_and c.from_residual-in_err-joined.result c.from_residual-in_err-joined.ensures.1 in rw p.1 tt

pub returns-in_err-joined-clause-steps : goal.returns-in_err-joined-clause-steps
returns-in_err-joined-clause-steps c =
    both_refused c.args.direction name_y c.args.adder.now (on_y c.args.zero.now) c.args.steps.now c.from_residual-in_err-joined.result c.args.adder.now c.in_ok-zero_y.zero_y refl c.in_ok-zero_y.ensures c.join_step.new.steps
    c.in_err-joined.field-0.0 c.in_err-joined.ensures (handed_on _ c.from_residual-in_err-joined.result c.from_residual-in_err-joined.ensures.1)
