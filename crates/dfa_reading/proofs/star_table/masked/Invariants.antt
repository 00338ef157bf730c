use Rattle.std.proofs.Common.{◌≡◌, ◌++◌, drop}
use Rattle.dfa_reading.specs.StarTables.{masked}
use Rattle.dfa_reading.proofs.star_table.masked.Given as goal

abbrev pub invariant-loop-track : goal.invariant-loop-track
invariant-loop-track l = l.masked.items ++ masked (drop l.track l.digits) (drop l.track l.pattern) ≡ masked l.digits l.pattern
