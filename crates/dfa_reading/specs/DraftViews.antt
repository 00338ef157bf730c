-- What drafts and lines of the code mean, and what a reader answers.
use Rattle.std.specs.Prelude.{◌≡◌, ℕ, List, map, Result, Ok, Err, option_map, ⊤}
use Rattle.dfa_reading.specs.Listed.{ListedLine}
use Rattle.dfa_reading.specs.Reading.{Draft}
use Rattle.dfa_reading.specs.HeaderViews.{header_view}
use Rattle.dfa_reading.specs.declared.fault.FileFault.{FileFault}
use Rattle.dfa_reading.specs.declared.fault.FileFault.TheVariants as faults
use Rattle.dfa_reading.specs.declared.draft.DraftLine.{DraftLine}
use Rattle.dfa_reading.specs.declared.draft.Draft.{Draft as DraftRead}

abbrev pub draft_line_view : DraftLine → ℕ × ListedLine
draft_line_view line = (line.at, record { state = line.state; digits = line.digits.items; targets = line.targets.items })

abbrev pub draft_lines_in : List DraftLine → List (ℕ × ListedLine)
draft_lines_in lines = map draft_line_view lines

abbrev pub draft_view : DraftRead → Draft
draft_view draft = record { header = option_map header_view draft.header; numbers = draft.numbers.keys; outputs = draft.outputs.items; lines = draft_lines_in draft.lines.items }

-- the value that is read, or the line of the first fault; memory may run out at any time
abbrev pub Gives : {X Y : Type 0} → (X → Y) → Result X FileFault → Result Y ℕ → Type 0
Gives view (Ok x) read = read ≡ Ok (view x)
Gives view (Err (faults.File line)) read = read ≡ Err line
Gives view (Err faults.Memory) read = ⊤
