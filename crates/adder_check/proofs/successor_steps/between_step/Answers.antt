use Rattle.std.proofs.Common.{List, ℕ, refl, sym, subst, arith}
use Rattle.std.specs.List.{Contains}
use Rattle.std.proofs.lemmas.Result.{err_from_is_err_and}
use Rattle.num_system.specs.SuccessorSteps.{name_u}
use Rattle.automaton_steps.specs.Makings.{DoesStep}
use Rattle.automaton_steps.specs.ProjectSteps.{project_step}
use Rattle.adder_check.proofs.AdderLemmas.{runs_out}
use Rattle.adder_check.proofs.HandedOn.{handed_on}
use Rattle.adder_check.proofs.PlanLemmas.{projected}
use Rattle.adder_check.proofs.successor_steps.between_step.Goals as goal

pub returns-in_err-u-clause-steps : goal.returns-in_err-u-clause-steps
returns-in_err-u-clause-steps c = runs_out (project_step c.args.direction name_u c.args.chain.now) c.args.steps.now c.from_residual.result (handed_on _ c.from_residual.result c.from_residual.ensures.1)

pub returns-in_err-u-clause-between : goal.returns-in_err-u-clause-between
returns-in_err-u-clause-between c = let p = err_from_is_err_and c.from_residual.result c.from_residual.ensures.1 in rw p.1 tt

pub project_step-requires : goal.project_step-requires
project_step-requires c = record {
  there = subst (Contains c.args.chain.now.names) (sym c.in_ok-u.ensures) (subst (λ (ns : List (List ℕ)). Contains ns name_u) (sym c.requires.names) (0, omega arith, refl));
}

pub returns-clause-steps : goal.returns-clause-steps
returns-clause-steps c = subst (λ (t : List ℕ). DoesStep (project_step c.args.direction t c.args.chain.now) c.args.steps.now c.project_step.result c.project_step.new.steps) c.in_ok-u.ensures c.project_step.ensures

pub returns-clause-between : goal.returns-clause-between
returns-clause-between c = projected c.args.steps.now c.project_step.new.steps c.args.direction c.in_ok-u.u name_u c.args.chain.now c.project_step.result c.in_ok-u.ensures c.project_step.ensures
