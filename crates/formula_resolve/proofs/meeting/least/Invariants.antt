use Rattle.std.proofs.Common.{◌≡◌, take}
use Rattle.std.specs.Option.{option_copied}
use Rattle.formula_resolve.specs.Occurrences.{free_of}
use Rattle.formula_resolve.specs.Directions.{least}
use Rattle.formula_resolve.specs.Meetings.{away_from}
use Rattle.formula_resolve.proofs.meeting.least.Given as goal

abbrev pub invariant-loop-occurrence : goal.invariant-loop-occurrence
invariant-loop-occurrence l = option_copied l.best ≡ least (away_from (option_copied l.away) (free_of l.next (take l.occurrence-index l.occurrences)))
