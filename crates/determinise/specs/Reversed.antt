-- Residuals of reversed languages.
use Rattle.std.specs.Prelude.{◌≡◌, ℕ, List, ◌++◌, reverse}
use Rattle.digit_tuple.specs.Deterministic.{Automaton, letters_of, accepts_of}
use Rattle.digit_tuple.specs.Letters.{IsWord}

-- the reversed language goes on alike after the two words
abbrev pub SameReversedResidual : Automaton → List ℕ → List ℕ → Type 0
SameReversedResidual d w v = (u : List ℕ) → IsWord (letters_of d) u → accepts_of d (reverse (w ++ u)) ≡ accepts_of d (reverse (v ++ u))
