use Rattle.std.proofs.Common.{length, ◌-◌, ◌+◌, ◌*◌, ◌≡◌}
use Rattle.digit_tuple.specs.Decisions.{rows_in, sizes_in, IsSound}
use Rattle.digit_tuple.specs.Letters.{product}
use Rattle.digit_tuple.proofs.RowGrowthLemmas.{IsGrown}
use Rattle.digit_tuple.proofs.decisions.+row.Given as goal

abbrev pub invariant-Track::add_row-loop-start : goal.invariant-Track::add_row-loop-start
invariant-Track::add_row-loop-start l = record {
  below : IsSound l.below;
  sizes : sizes_in l.below ≡ sizes_in l.fn.below;
  grown : IsGrown l.base l.transitions l.fn.self (rows_in l.fn.below) l.start (product (sizes_in l.fn.below)) l.self (rows_in l.below);
}

abbrev pub decreases-Track::add_row-loop-start : goal.decreases-Track::add_row-loop-start
decreases-Track::add_row-loop-start l = length l.transitions - l.start

abbrev pub decreases-Decisions::add_row : goal.decreases-Decisions::add_row
decreases-Decisions::add_row l = 2 * length (sizes_in l.self.now)

abbrev pub decreases-Track::add_row : goal.decreases-Track::add_row
decreases-Track::add_row l = 2 * length (sizes_in l.below.now) + 1
