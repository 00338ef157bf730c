use Rattle.std.proofs.Common.{◌≡◌, drop, take}
use Rattle.step_lines.proofs.lines.lines_after.Given as goal

-- the lines after the first so many and before this number
abbrev pub invariant-loop-number : goal.invariant-loop-number
invariant-loop-number l = l.lines.items ≡ drop l.count (take l.number l.steps.lines)
