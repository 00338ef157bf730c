use Rattle.std.proofs.Common.{take}
use Rattle.command_parts.proofs.TableReads.{AreReadSoFar}
use Rattle.command_parts.proofs.table_reading.read_tables.Given as goal

-- the tables before it are read
abbrev pub invariant-loop-table : goal.invariant-loop-table
invariant-loop-table l = AreReadSoFar l.systems l.initial.steps (take l.table-index l.tables) l.library l.steps
