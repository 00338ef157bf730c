-- The least length, from one on, of a word that an automaton accepts.
use Rattle.std.specs.Prelude.{◌≡◌, ℕ, ◌≤◌, ◌<◌, true, false, List}
use Rattle.digit_tuple.specs.Deterministic.{Automaton}
use Rattle.word_walk.specs.Levels.{lives, least_word}

-- no word of at least so many letters is accepted
abbrev pub HasNoLength : Automaton → ℕ → Type 0
HasNoLength d least = (m : ℕ) → least ≤ m → lives d m 0 ≡ false

-- a word of so many letters is accepted, and none of fewer from the least length on
pub record IsFirstLength (d : Automaton) (least m : ℕ) : Type 0 where
  pub enough : least ≤ m
  pub live : lives d m 0 ≡ true
  pub none : (k : ℕ) → least ≤ k → k < m → lives d k 0 ≡ false

-- the word is the first one of that length
abbrev pub IsFirstLonger : Automaton → ℕ → List ℕ → Type 0
IsFirstLonger d least w = (m : ℕ) × IsFirstLength d least m × (w ≡ least_word d m 0)
