use Rattle.std.proofs.Common.{◌≡◌, ◌+◌, ◌≤◌, length}
use Rattle.dfa_reading.specs.Lines.{lines_of, line_after}
use Rattle.dfa_reading.specs.Reading.{add_lines_by, no_draft}
use Rattle.dfa_reading.proofs.reading.read_lines.Given as goal

abbrev pub invariant-lines : goal.invariant-lines
invariant-lines g l = record {
  read : add_lines_by (g.R.LineReader.adds l.reader) l.at (g.R.LineReader.was_read l.reader) (lines_of l.rest) ≡ add_lines_by (g.R.LineReader.adds l.fn.reader) 1 no_draft (lines_of l.text);
  after : l.at + line_after (lines_of l.rest) ≡ 1 + line_after (lines_of l.text);
  is : g.R.LineReader.is_prefix l.reader;
  room : l.at + length l.rest ≤ 1 + length l.text;
}

abbrev pub decreases-lines : goal.decreases-lines
decreases-lines g l = length l.rest
