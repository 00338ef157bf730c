use Rattle.std.proofs.Common.{◌≡◌, drop}
use Rattle.dfa_reading.specs.StarTables.{same_stars}
use Rattle.dfa_reading.proofs.star_table.has_stars.Given as goal

abbrev pub invariant-loop-track : goal.invariant-loop-track
invariant-loop-track l = same_stars (drop l.track l.digits) (drop l.track l.pattern) ≡ same_stars l.digits l.pattern
