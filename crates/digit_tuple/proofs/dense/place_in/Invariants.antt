use Rattle.std.proofs.Common.{◌-◌, ◌<◌, ◌≤◌, length}
use Rattle.std.specs.List.{AllWithin}
use Rattle.digit_tuple.proofs.dense.place_in.Given as goal

abbrev pub invariant-loop-low : goal.invariant-loop-low
invariant-loop-low l = record {
  order : l.low ≤ l.high;
  within : l.high ≤ length l.transitions;
  before : AllWithin (λ transition. transition.letter < l.letter) l.transitions 0 l.low;
  after : AllWithin (λ transition. l.letter ≤ transition.letter) l.transitions l.high (length l.transitions);
}

abbrev pub decreases-loop-low : goal.decreases-loop-low
decreases-loop-low l = l.high - l.low
