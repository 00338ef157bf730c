use Rattle.language_steps.proofs.Readings.{AreReadSoFar}
use Rattle.language_steps.proofs.reading.read_languages.Given as goal

-- the tables before it are read
abbrev pub invariant-loop-table : goal.invariant-loop-table
invariant-loop-table l = AreReadSoFar l.tables l.table-index l.initial.steps l.languages.items l.steps
