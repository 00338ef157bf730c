use Rattle.std.proofs.Common.{◌≡◌, ◌-◌, ◌≤◌, take, drop, length}
use Rattle.dfa_reading.specs.Lines.{arrow_at}
use Rattle.dfa_reading.proofs.ReadLines.{suffix}
use Rattle.transducer_reading.proofs.read_lines.cut_arrow.Given as goal

abbrev pub invariant-loop-index : goal.invariant-loop-index
invariant-loop-index l = record {
  within : l.index ≤ length l.line;
  found : suffix (take l.index l.line) (arrow_at (drop l.index l.line)) ≡ arrow_at l.line;
}

abbrev pub decreases-loop-index : goal.decreases-loop-index
decreases-loop-index l = length l.line - l.index
