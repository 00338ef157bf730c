use Rattle.std.proofs.Common.{◌≡◌, ◌+◌, ◌≤◌, length}
use Rattle.dfa_reading.specs.Lines.{lines_of, line_after}
use Rattle.transducer_reading.specs.Reading.{add_lines, no_draft}
use Rattle.transducer_reading.specs.Drafts.{draft_view, IsReading}
use Rattle.transducer_reading.proofs.reading.read_transducer.Given as goal

abbrev pub invariant-lines : goal.invariant-lines
invariant-lines l = record {
  read : add_lines l.at (draft_view l.draft) (lines_of l.rest) ≡ add_lines 1 no_draft (lines_of l.text);
  after : l.at + line_after (lines_of l.rest) ≡ 1 + line_after (lines_of l.text);
  is : IsReading l.draft;
  room : l.at + length l.rest ≤ 1 + length l.text;
}

abbrev pub decreases-lines : goal.decreases-lines
decreases-lines l = length l.rest
