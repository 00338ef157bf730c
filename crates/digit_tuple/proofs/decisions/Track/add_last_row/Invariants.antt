use Rattle.std.proofs.Common.{map}
use Rattle.digit_tuple.specs.Decisions.{only_transition}
use Rattle.digit_tuple.proofs.RowGrowthLemmas.{IsGrown}
use Rattle.digit_tuple.proofs.decisions.Track.add_last_row.Given as goal

abbrev pub invariant-loop-transition : goal.invariant-loop-transition
invariant-loop-transition l = IsGrown l.base l.transitions l.fn.self (map only_transition l.fn.targets.items) l.transition-index 1 l.self (map only_transition l.targets.items)
