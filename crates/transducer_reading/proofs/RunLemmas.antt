-- Runs over more letters.
use Rattle.std.proofs.Common.{ℕ, ℤ, zero, suc}
use Rattle.transducer_reading.specs.LetterRuns.{Makes, RunsTo}
use Rattle.transducer_reading.specs.Transducers.{Transducer}

-- runs over letters that other places have too
module _ (t : Transducer) (P Q : ℕ → ℤ → Type 0) (holds : (i : ℕ) (a : ℤ) → P i a → Q i a) where
  RunsTo-weaker : (n q : ℕ) → RunsTo t P n q → RunsTo t Q n q
  RunsTo-weaker zero q is = is
  RunsTo-weaker (suc n) q (p, a, to, has, is) = (p, a, RunsTo-weaker n p to, holds n a has, is)

  pub Makes-weaker : (n : ℕ) (b : ℤ) → Makes t P n b → Makes t Q n b
  Makes-weaker n b (p, a, to, has, is) = (p, a, RunsTo-weaker n p to, holds n a has, is)
