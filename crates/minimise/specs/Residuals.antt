-- Residual languages: the words that are accepted from a state.
use Rattle.std.specs.Prelude.{◌≡◌, ℕ, false, List, ◌++◌}
use Rattle.digit_tuple.specs.Deterministic.{Automaton, letters_of, accepts_from, accepts_of}
use Rattle.digit_tuple.specs.Letters.{IsWord}

-- the same words over the alphabet are accepted from p in d and from q in e
abbrev pub SameResidual : Automaton → ℕ → Automaton → ℕ → Type 0
SameResidual d p e q = (w : List ℕ) → IsWord (letters_of d) w → accepts_from d p w ≡ accepts_from e q w

-- the same words over the alphabet are accepted
abbrev pub SameLanguage : Automaton → Automaton → Type 0
SameLanguage d e = (w : List ℕ) → IsWord (letters_of d) w → accepts_of d w ≡ accepts_of e w

-- no word over the alphabet is accepted from q
abbrev pub IsDead : Automaton → ℕ → Type 0
IsDead d q = (w : List ℕ) → IsWord (letters_of d) w → accepts_from d q w ≡ false

-- the automaton's language has one residual after both words: what follows the one and is accepted follows the other
abbrev pub SameAfter : Automaton → List ℕ → List ℕ → Type 0
SameAfter d w v = (u : List ℕ) → IsWord (letters_of d) u → accepts_of d (w ++ u) ≡ accepts_of d (v ++ u)

-- no word that begins so is accepted: the residual after the word is empty
abbrev pub IsEmptyAfter : Automaton → List ℕ → Type 0
IsEmptyAfter d w = (u : List ℕ) → IsWord (letters_of d) u → accepts_of d (w ++ u) ≡ false
