-- What the most significant digits of a word lead to.
use Rattle.std.specs.Prelude.{◌≡◌, ℕ, ◌<◌, false, Bool, List, length, reverse, IfSome, slice_index_or}
use Rattle.digit_tuple.specs.Deterministic.{Automaton, accepts_from, run_of, states_of}
use Rattle.digit_tuple.specs.declared.direction.Direction.{Direction}
use Rattle.digit_tuple.specs.declared.direction.Direction.TheVariants.{Msd, Lsd}
use Rattle.constants.specs.declared.prefix.Prefix.{Prefix}
use Rattle.constants.specs.declared.prefix.Prefix.TheVariants.{After, Before}

-- the marks say for each state whether the word is accepted from it
pub record AreMarks (a : Automaton) (w : List ℕ) (marks : List Bool) : Type 0 where
  pub long : length marks ≡ states_of a
  pub at : (q : ℕ) → q < states_of a → slice_index_or marks q false ≡ accepts_from a q w

-- the state after the digits, or, where the least significant digit comes first, the states before them
abbrev pub IsPrefix : Direction → Automaton → List ℕ → Prefix → Type 0
IsPrefix Msd a w (After state) = state ≡ run_of a 0 w
IsPrefix Msd a w (Before marks) = ⊥
IsPrefix Lsd a w (After state) = ⊥
IsPrefix Lsd a w (Before marks) = AreMarks a (reverse w) marks.items

-- the prefix is one of so many states
abbrev pub Fits : ℕ → Prefix → Type 0
Fits count (After state) = IfSome state (λ q. q < count)
Fits count (Before marks) = length marks.items ≡ count
