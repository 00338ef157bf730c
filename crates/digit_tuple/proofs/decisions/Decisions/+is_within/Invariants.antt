use Rattle.std.proofs.Common.{[], map, take, drop, get_or, length}
use Rattle.std.specs.List.{AllByRecursion}
use Rattle.digit_tuple.specs.Decisions.{after_digit, joined, rows_in, sizes_in, LeadsAs}
use Rattle.digit_tuple.proofs.decisions.Decisions.+is_within.Given as goal

abbrev pub invariant-loop-count : goal.invariant-loop-count
invariant-loop-count l = AllByRecursion (LeadsAs (get_or (rows_in l.other) l.at [])) (map (after_digit l.base) (joined l.track.weight (take l.count l.digit-items) (drop l.start (rows_in l.below.value))))

abbrev pub decreases-is_within : goal.decreases-is_within
decreases-is_within l = length (sizes_in l.self.now)
