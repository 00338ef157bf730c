use Rattle.std.proofs.Common.{◌≡◌, ◌++◌, map, take, drop, length}
use Rattle.digit_tuple.specs.Decisions.{after_digit, joined, rows_in, sizes_in}
use Rattle.digit_tuple.proofs.decisions.Decisions.+row_into.Given as goal

abbrev pub invariant-loop-count : goal.invariant-loop-count
invariant-loop-count l = l.row.items ≡ l.initial.row.items ++ map (after_digit l.base) (joined l.track.weight (take l.count l.digit-items) (drop l.start (rows_in l.below.value)))

abbrev pub decreases-row_into : goal.decreases-row_into
decreases-row_into l = length (sizes_in l.self.now)
