use Rattle.std.proofs.Common.{◌≡◌, ℕ, ◌<◌, false, length, get_or}
use Rattle.std.specs.List.{list_any}
use Rattle.digit_tuple.specs.Deterministic.{transitions_of}
use Rattle.word_walk.proofs.level.Level.before.Given as goal

abbrev pub invariant-loop-state : goal.invariant-loop-state
invariant-loop-state l = record {
  count : length l.sources.items ≡ l.state;
  flag_is : (q : ℕ) → q < l.state → get_or l.sources.items q false ≡ list_any (λ e. get_or l.flags e.target false) (transitions_of l.d q);
}
