use Rattle.std.proofs.Common.{◌≡◌, drop}
use Rattle.transducer_reading.specs.Reading.{placed_lines}
use Rattle.transducer_reading.proofs.ReadLemmas.{ahead}
use Rattle.transducer_reading.proofs.draft.placed_lines.Given as goal

abbrev pub invariant-loop-entry : goal.invariant-loop-entry
invariant-loop-entry l = ahead l.placed.items (placed_lines l.numbers.keys (drop l.entry-index l.lines)) ≡ placed_lines l.numbers.keys l.lines
