use Rattle.std.proofs.Common.{inl, map, subst}
use Rattle.std.specs.Rc.{rc_value}
use Rattle.minimise.specs.Tracked.{NamedAutomaton}
use Rattle.automaton_steps.specs.Makings.{DoesStep}
use Rattle.automaton_steps.specs.ValiditySteps.{valid_step}
use Rattle.reg_steps.proofs.relation_steps.relation_steps.Goals as goal

pub returns : goal.returns
returns c =
    let last = subst (λ (a : NamedAutomaton). DoesStep (valid_step (map rc_value c.args.languages.now) a) c.pad_step.new.steps c.valid_step.result c.valid_step.new.steps) c.in_ok-relation.ensures c.valid_step.ensures in
    inl (c.in_ok-matches.matches, c.regex_step.new.steps, c.in_ok-matches.ensures, inl (c.in_ok-closed.closed, c.pad_step.new.steps, c.in_ok-closed.ensures, last))
