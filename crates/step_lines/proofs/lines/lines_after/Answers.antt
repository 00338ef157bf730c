use Rattle.std.proofs.Common.{◌∙◌, ap, drop, take, sym, arith}
use Rattle.std.proofs.lemmas.List.{drop_all, length-take-le, take_all}
use Rattle.step_lines.proofs.LineLemmas.{one_more_after}
use Rattle.step_lines.proofs.lines.lines_after.Goals as goal

pub loop-number-init : goal.loop-number-init
loop-number-init c =
    let lines = c.args.steps.now.lines in
    c.new-lines.ensures.items ∙ sym (drop_all c.args.count (take c.args.count lines) (omega (arith, length-take-le c.args.count lines c.requires)))

pub loop-number-preserved : goal.loop-number-preserved
loop-number-preserved c =
    one_more_after c.args.steps.now.lines c.loop-number.lines.items _ c.args.count c.loop-number.number c.line.result (omega arith) (omega (arith, c.loop-number-test.true, c.count-number-end.ensures)) c.line.ensures c.loop-number.invariant c.in_ok-push.ensures.items

pub returns : goal.returns
returns c = c.loop-number.invariant ∙ ap (drop c.args.count) (take_all c.loop-number.number c.args.steps.now.lines (omega (arith, c.loop-number-test.false, c.count-number-end.ensures)))
