use Rattle.std.proofs.lemmas.Result.{err_from_is_err_and}
use Rattle.system_admission.specs.SystemSteps.{no_steps}
use Rattle.language_commands.proofs.RegexWrites.{made_over_sets, refused_over_sets}
use Rattle.language_commands.proofs.reg.regex_over.Goals as goal

pub returns-in_err-automaton : goal.returns-in_err-automaton
returns-in_err-automaton c =
    let p = err_from_is_err_and c.from_residual-in_err-automaton.result c.from_residual-in_err-automaton.ensures.1 in
    let refused = rw c.new_steps-steps.ensures at c.in_err-automaton.ensures in
    λ custom name. rw (p.1, p.2) (refused_over_sets custom (no_steps c.args.options.limit) name c.args.sets c.args.body.now c.in_ok-regex.regex c.in_err-automaton.field-0.0 c.regex_step.new.steps c.in_ok-regex.ensures refused)

pub returns : goal.returns
returns c =
    λ custom name. made_over_sets custom (no_steps c.args.options.limit) name c.args.sets c.args.body.now c.args.options.shown c.in_ok-regex.regex c.in_ok-automaton.automaton c.regex_step.new.steps c.requires.sets c.in_ok-regex.ensures
    (rw c.new_steps-steps.ensures at c.in_ok-automaton.ensures) c.made_of.result c.made_of.ensures
