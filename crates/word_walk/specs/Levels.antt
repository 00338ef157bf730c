-- The states from which words of a length are accepted, and the first such words.
use Rattle.std.specs.Prelude.{◌≡◌, ℕ, zero, suc, ◌<◌, Bool, false, ◌&&◌, List, [], ◌∷◌, length, Option, slice_index_or, nat_le}
use Rattle.std.specs.List.{find, list_any}
use Rattle.std.specs.Option.{option_map_or}
use Rattle.digit_tuple.specs.Deterministic.{Automaton, states_of, accepting_of, transitions_of}
use Rattle.digit_tuple.specs.declared.transitions.Transition.{Transition}

-- a word of so many letters is accepted from the state
abbrev pub lives : Automaton → ℕ → ℕ → Bool
lives d zero q = accepting_of d q
lives d (suc m) q = list_any (λ e. lives d m e.target) (transitions_of d q)

-- the first transition by a letter from a number on after which a word of so many letters is accepted
abbrev pub first_live : Automaton → ℕ → ℕ → List Transition → Option Transition
first_live d m from es = find (λ e. nat_le from e.letter && lives d m e.target) es

-- the first word of so many letters that is accepted from the state
abbrev pub least_word : Automaton → ℕ → ℕ → List ℕ
least_word d zero q = []
least_word d (suc m) q = option_map_or (λ e. e.letter ∷ least_word d m e.target) (first_live d m 0 (transitions_of d q)) []

-- the flags say of each state whether a word of so many letters is accepted from it
pub record IsLevel (d : Automaton) (m : ℕ) (flags : List Bool) : Type 0 where
  pub width : length flags ≡ states_of d
  pub flag_is : (q : ℕ) → q < states_of d → slice_index_or flags q false ≡ lives d m q

-- level after level
abbrev pub AreLevels : Automaton → List (List Bool) → Type 0
AreLevels d levels = (m : ℕ) → m < length levels → IsLevel d m (slice_index_or levels m [])
