use Rattle.std.proofs.Common.{◌∙◌, sym, ap, arith}
use Rattle.std.proofs.lemmas.List.{get_or_default, take_all}
use Rattle.digit_tuple.specs.Steps.{with_lines}
use Rattle.step_lines.proofs.LineLemmas.{one_more_added}
use Rattle.step_lines.proofs.ShiftedSteps.{nothing_added}
use Rattle.step_lines.proofs.lines.add_lines.Goals as goal

pub loop-line-init : goal.loop-line-init
loop-line-init c = sym (nothing_added c.args.steps.now)

pub loop-line-preserved : goal.loop-line-preserved
loop-line-preserved c = one_more_added c.args.steps.now c.loop-line.steps c.add_line.new.steps c.args.lines.now c.loop-line.line-index _ c.loop-line-test.true (get_or_default c.args.lines.now c.loop-line.line-index _ _ c.loop-line-test.true) c.loop-line.invariant c.in_ok-add_line.ensures

pub returns : goal.returns
returns c = c.loop-line.invariant ∙ ap (with_lines c.args.steps.now) (take_all c.loop-line.line-index c.args.lines.now (omega (arith, c.loop-line-test.false)))
