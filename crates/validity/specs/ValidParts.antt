-- Complements of automata among valid words, and parts of them on these.
use Rattle.std.specs.Prelude.{ℕ, Bool, not, ◌&&◌, List}
use Rattle.digit_tuple.specs.Deterministic.{Automaton, accepts_of}
use Rattle.minimise.specs.Residuals.{SameAfter}
use Rattle.minimise.specs.Tracked.{NamedAutomaton}
use Rattle.product_op.specs.Validity.{is_valid, TracksAlike}

-- whether a word is valid and not in a
abbrev pub in_complement : NamedAutomaton → List Automaton → List ℕ → Bool
in_complement a languages w = not (accepts_of a.automaton w) && is_valid a.automaton.sizes languages w

-- whether a word is valid and in a
abbrev pub in_valid_part : NamedAutomaton → List Automaton → List ℕ → Bool
in_valid_part a languages w = accepts_of a.automaton w && is_valid a.automaton.sizes languages w

-- the automaton has one residual after the two words, and so has each track's language
pub record ValidityAlike (a : NamedAutomaton) (languages : List Automaton) (w v : List ℕ) : Type 0 where
  pub argument : SameAfter a.automaton w v
  pub tracks : TracksAlike a.automaton.sizes languages w v
