use Rattle.std.proofs.Common.{inl, inr, map, subst}
use Rattle.std.specs.Rc.{rc_value}
use Rattle.std.proofs.lemmas.Result.{IfOk-weaker, err_from_is_err_and}
use Rattle.minimise.specs.Tracked.{NamedAutomaton}
use Rattle.automaton_steps.specs.Makings.{DoesStep}
use Rattle.automaton_steps.specs.ValiditySteps.{valid_step}
use Rattle.adder_check.specs.AdderRelation.{adder_names}
use Rattle.adder_check.proofs.AdderLemmas.{adder_done, adder_holds, runs_out, valid_made}
use Rattle.adder_check.proofs.HandedOn.{handed_on}
use Rattle.adder_check.proofs.adder_steps.adder_steps.Goals as goal

pub returns-in_err-closed-clause-steps : goal.returns-in_err-closed-clause-steps
returns-in_err-closed-clause-steps c =
    inl (
      c.in_ok-read.read,
      c.file_steps.new.steps,
      c.in_ok-read.ensures.steps,
      inr (c.in_err-closed.field-0.0, c.in_err-closed.ensures, (handed_on _ c.from_residual-in_err-closed.result c.from_residual-in_err-closed.ensures.1)),
    )

pub returns-in_err-adder-clause-steps : goal.returns-in_err-adder-clause-steps
returns-in_err-adder-clause-steps c =
    adder_done c.args.direction c.args.file.listed.now c.args.file.reversed (map rc_value c.args.languages.now) c.args.steps.now c.file_steps.new.steps c.pad_step.new.steps c.pad_step.new.steps c.in_ok-read.read
    c.in_ok-closed.closed c.from_residual-in_err-adder.result c.in_ok-read.ensures.steps c.in_ok-closed.ensures
    (runs_out (valid_step (map rc_value c.args.languages.now) (record { names = adder_names; automaton = c.in_ok-closed.closed })) c.pad_step.new.steps c.from_residual-in_err-adder.result
    (handed_on _ c.from_residual-in_err-adder.result c.from_residual-in_err-adder.ensures.1))

pub returns-clause-steps : goal.returns-clause-steps
returns-clause-steps c =
    adder_done c.args.direction c.args.file.listed.now c.args.file.reversed (map rc_value c.args.languages.now) c.args.steps.now c.file_steps.new.steps c.pad_step.new.steps c.valid_step.new.steps c.in_ok-read.read
    c.in_ok-closed.closed c.valid_step.result c.in_ok-read.ensures.steps c.in_ok-closed.ensures
    (subst (λ (n : NamedAutomaton). DoesStep (valid_step (map rc_value c.args.languages.now) n) c.pad_step.new.steps c.valid_step.result c.valid_step.new.steps) c.in_ok-adder.ensures c.valid_step.ensures)

pub returns-clause-relation : goal.returns-clause-relation
returns-clause-relation c =
    IfOk-weaker c.valid_step.result _ _
    (λ part valid s system sizes are. adder_holds c.args.direction s system c.args.file.listed.now c.args.file.reversed c.in_ok-read.read c.in_ok-closed.closed part (map rc_value c.args.languages.now) sizes c.in_ok-read.ensures.file
    c.in_ok-closed.ensures.step.made_is valid are)
    (valid_made c.pad_step.new.steps c.valid_step.new.steps (map rc_value c.args.languages.now) c.in_ok-adder.adder (record { names = adder_names; automaton = c.in_ok-closed.closed }) c.valid_step.result c.in_ok-adder.ensures c.valid_step.ensures)

pub returns-in_err-read-clause-steps : goal.returns-in_err-read-clause-steps
returns-in_err-read-clause-steps c = inr (c.in_err-read.field-0.0, c.in_err-read.ensures.steps, (handed_on _ c.from_residual.result c.from_residual.ensures.1))

pub returns-in_err-read-clause-relation : goal.returns-in_err-read-clause-relation
returns-in_err-read-clause-relation c = let p = err_from_is_err_and c.from_residual.result c.from_residual.ensures.1 in rw p.1 tt

pub returns-in_err-closed-clause-relation : goal.returns-in_err-closed-clause-relation
returns-in_err-closed-clause-relation c = let p = err_from_is_err_and c.from_residual-in_err-closed.result c.from_residual-in_err-closed.ensures.1 in rw p.1 tt

pub returns-in_err-adder-clause-relation : goal.returns-in_err-adder-clause-relation
returns-in_err-adder-clause-relation c = let p = err_from_is_err_and c.from_residual-in_err-adder.result c.from_residual-in_err-adder.ensures.1 in rw p.1 tt
