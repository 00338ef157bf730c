-- What is seen of a session, and what is reported.
use Rattle.std.specs.Prelude.{ℕ}

-- a session: the most values that a step of a command may have
pub record SessionView : Type 0 where
  pub limit : ℕ
