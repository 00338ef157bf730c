use Rattle.std.proofs.Common.{◌≡◌, take}
use Rattle.command_parts.specs.Lines.{step_lines}
use Rattle.command_parts.proofs.printed.Printed.of_lines.Given as goal

-- the lines of the steps so far
abbrev pub invariant-loop-number : goal.invariant-loop-number
invariant-loop-number l = l.printed ≡ step_lines 1 (take l.number l.steps.lines)
