use Rattle.std.proofs.Common.{◌≡◌, ◌++◌, map, take, drop}
use Rattle.digit_tuple.specs.Decisions.{after_digit, joined, only_transition}
use Rattle.digit_tuple.proofs.decisions.Track.last_row_into.Given as goal

abbrev pub invariant-loop-count : goal.invariant-loop-count
invariant-loop-count l = l.row.items ≡ l.initial.row.items ++ map (after_digit l.base) (joined l.self.weight (take l.count l.digit-items) (drop l.start (map only_transition l.targets)))
