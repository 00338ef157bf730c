use Rattle.std.proofs.Common.{◌≡◌, ℕ, ◌<◌, false, List, ◌∷◌, length, slice_index_or}
use Rattle.digit_tuple.specs.Deterministic.{accepts_from}
use Rattle.constants.specs.Prefixes.{AreMarks}
use Rattle.constants.proofs.prefix.marks_before.Given as goal

abbrev pub invariant-loop-state : goal.invariant-loop-state
invariant-loop-state l = record {
  long : length l.before.items ≡ l.state;
  at : (w : List ℕ) (q : ℕ) → AreMarks l.language w l.marks → q < l.state → slice_index_or l.before.items q false ≡ accepts_from l.language q (l.digit ∷ w);
}
