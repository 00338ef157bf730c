use Rattle.std.proofs.Common.{◌≡◌, take}
use Rattle.digit_tuple.specs.Steps.{with_lines}
use Rattle.step_lines.proofs.lines.add_lines.Given as goal

-- the lines before it are added
abbrev pub invariant-loop-line : goal.invariant-loop-line
invariant-loop-line l = l.steps ≡ with_lines l.initial.steps (take l.line-index l.lines)
