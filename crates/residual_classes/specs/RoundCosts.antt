-- What rounds may cost.
use Rattle.std.specs.Prelude.{ℕ, ◌+◌, ◌*◌, ◌<◌, ◌≤◌, ◌^◌, List}
use Rattle.digit_tuple.specs.Deterministic.{Automaton, states_of}
use Rattle.digit_tuple.specs.TransitionCounts.{transition_count}
use Rattle.residual_classes.specs.CoarseClasses.{AreCoarseClasses}
use Rattle.residual_classes.specs.PaidPartition.{AreAtMost}
use Rattle.residual_classes.specs.declared.rounds.Counted.{Counted}

-- the classes part no states from which all words lead to the same outputs, and none is larger
pub record AreCounted (d : Automaton) (outputs : List ℕ) (counted : Counted) : Type 0 where
  pub coarse : AreCoarseClasses d outputs counted.classes.items
  pub most : AreAtMost (states_of d) counted.classes.items counted.largest

-- So many rounds, one look more and half the binary logarithm of the largest class are at most the binary digits of the number of states.
pub record IsCheap (states rounds largest : ℕ) : Type 0 where
  pub digits : ℕ
  pub within : largest ≤ 2 ^ digits
  pub cheap : (b : ℕ) → states < 2 ^ b → 2 * (rounds + 1) + digits ≤ 2 * b

-- rounds leave room to part the classes by smaller parts
pub record HasRoom (d : Automaton) (counted : Counted) (old new : ℕ) : Type 0 where
  pub digits : ℕ
  pub within : counted.largest ≤ 2 ^ digits
  pub most : AreAtMost (states_of d) counted.classes.items counted.largest
  pub room : (b : ℕ) → states_of d < 2 ^ b → 2 * new + (2 + digits) * transition_count d ≤ 2 * old + 2 * (transition_count d * b)
