use Rattle.std.proofs.Common.{ℕ, ◌+◌, List, ◌++◌, sym, ap, ◌∙◌}
use Rattle.command_parts.specs.Lines.{step_line}
use Rattle.command_parts.proofs.StepLines.{one_line_more}
use Rattle.command_parts.proofs.printed.Printed.of_lines.Goals as goal

pub loop-number-preserved : goal.loop-number-preserved
loop-number-preserved c =
    c.in_ok-push_step.ensures ∙ (ap (λ (text : List ℕ). text ++ step_line (c.loop-number.number + 1) c.line.result) c.loop-number.invariant
    ∙ sym (one_line_more c.args.steps.now.lines c.loop-number.number c.line.result c.line.ensures))
