use Rattle.std.proofs.Common.{◌≡◌, length, drop}
use Rattle.dfa_reading.specs.Reading.{placed_lines}
use Rattle.dfa_reading.specs.LineViews.{lines_in}
use Rattle.dfa_reading.specs.DraftViews.{draft_lines_in}
use Rattle.dfa_reading.proofs.ReadDrafts.{ahead}
use Rattle.dfa_reading.proofs.draft.placed_lines.Given as goal

abbrev pub invariant-loop-line : goal.invariant-loop-line
invariant-loop-line l = ahead (lines_in l.placed.items) (placed_lines l.numbers.keys (draft_lines_in (drop (length l.yielded) l.fn.lines.items))) ≡ placed_lines l.numbers.keys (draft_lines_in l.fn.lines.items)
