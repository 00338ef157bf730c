-- Letters lead from pairs to live pairs, or to none.
use Rattle.std.specs.Prelude.{ℕ, Bool, true, false, List, None, Some, MatchOption, ⊤, if◌then◌else◌}
use Rattle.product_op.specs.declared.op.Op.{Op}
use Rattle.product_op.specs.DeadPairs.{is_dead_pair, live_pair_after}
use Rattle.product_op.specs.ReadingLaws.{next_is_key}
use Rattle.product_op.specs.Readings.{Reading, AreReadings, AreStates, next_key}

pub live_pair_is_key : (letters : ℕ) (readings : List Reading) → AreReadings letters readings → (op : Op) (key : List ℕ) (a : ℕ) → MatchOption (live_pair_after op readings key a) ⊤ (AreStates readings)
live_pair_is_key letters readings are op key a = by (is_dead_pair op readings (next_key readings key a))
  where
    by : (b : Bool) → MatchOption (if b then None else Some (next_key readings key a)) ⊤ (AreStates readings)
    by true = tt
    by false = next_is_key letters readings are key a
