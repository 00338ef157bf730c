-- What listed lines of the code mean.
use Rattle.std.specs.Prelude.{List, map}
use Rattle.dfa_reading.specs.Listed.{ListedLine}
use Rattle.dfa_reading.specs.declared.listed.ListedLine.{ListedLine as LineRead}

abbrev pub line_view : LineRead → ListedLine
line_view line = record { state = line.state; digits = line.digits.items; targets = line.targets.items }

abbrev pub lines_in : List LineRead → List ListedLine
lines_in lines = map line_view lines
