-- Lists of the pairs of states that words lead to.
use Rattle.std.specs.Prelude.{◌≡◌, ℕ, ◌<◌, ◌≤◌, false, List, length}
use Rattle.std.specs.List.{All, Contains}
use Rattle.digit_tuple.specs.Explored.{key_at}
use Rattle.digit_tuple.specs.Letters.{IsWord}
use Rattle.product_op.specs.declared.op.Op.{Op}
use Rattle.product_op.specs.DeadPairs.{is_dead_pair}
use Rattle.product_op.specs.Readings.{Reading, AreStates, first_key, next_key}
use Rattle.product_op.specs.Tuples.{tuple_after}

-- some word leads to the key
abbrev pub IsReached : ℕ → List Reading → List ℕ → Type 0
IsReached letters readings key = (w : List ℕ) × IsWord letters w × (tuple_after readings w ≡ key)

-- words lead to these, the initial one is among them, and so is each that is not dead and that a letter leads to from one of them
pub record HoldLive (letters : ℕ) (op : Op) (readings : List Reading) (keys : List (List ℕ)) : Type 0 where
  pub reached : All (IsReached letters readings) keys
  pub states : All (AreStates readings) keys
  pub first : Contains keys (first_key readings)
  pub live : (key : List ℕ) → Contains keys key → (a : ℕ) → a < letters → is_dead_pair op readings (next_key readings key a) ≡ false → Contains keys (next_key readings key a)

-- all that letters lead to from a key are among these
abbrev pub HoldAfter : ℕ → List Reading → List ℕ → List (List ℕ) → Type 0
HoldAfter letters readings key keys = (a : ℕ) → a < letters → Contains keys (next_key readings key a)

-- a letter leads to it from one of these
abbrev pub IsAfter : ℕ → List Reading → List (List ℕ) → List ℕ → Type 0
IsAfter letters readings keys pair = (key : List ℕ) × Contains keys key × ((a : ℕ) × (a < letters) × (next_key readings key a ≡ pair))

-- the list begins with the other
pub record BeginsWith (old new : List (List ℕ)) : Type 0 where
  pub more : length old ≤ length new
  pub same : (i : ℕ) → i < length old → key_at new i ≡ key_at old i
