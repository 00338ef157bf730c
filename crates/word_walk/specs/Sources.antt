-- The states from which transitions lead to some states.
use Rattle.std.specs.Prelude.{◌≡◌, ◌==◌, ℕ, ◌<◌, Bool, false, List, length, map, Option, slice_index_or}
use Rattle.std.specs.List.{All, flat_map, list_any}
use Rattle.std.specs.Option.{ForSome}
use Rattle.digit_tuple.specs.Automaton as branching
use Rattle.digit_tuple.specs.Automaton.{Branching}
use Rattle.digit_tuple.specs.Deterministic.{Automaton, states_of, transitions_of}

-- the flags say of each state whether a transition leads from it to a state that has one
pub record AreSources (d : Automaton) (flags sources : List Bool) : Type 0 where
  pub width : length sources ≡ states_of d
  pub flag_is : (q : ℕ) → q < states_of d → slice_index_or sources q false ≡ list_any (λ e. slice_index_or flags e.target false) (transitions_of d q)

-- from each state the transitions of the second automaton lead to the states from which one of the first leads to it
pub record LeadsBack (d : Automaton) (n : Branching) : Type 0 where
  pub states : branching.states_of n ≡ states_of d
  pub within : (q : ℕ) → All (λ e. e.target < states_of d) (branching.transitions_of n q)
  pub sources : (q p : ℕ) → p < states_of d → list_any (λ e. e.target == p) (branching.transitions_of n q) ≡ list_any (λ e. e.target == q) (transitions_of d p)

-- the automaton is reversed, if it was yet
abbrev pub IsReversed : Automaton → Option Branching → Type 0
IsReversed d backwards = ForSome backwards (LeadsBack d)

-- the states that transitions lead to, from each of some states
abbrev pub targets_from : Branching → List ℕ → List ℕ
targets_from n states = flat_map (λ q. map (λ e. e.target) (branching.transitions_of n q)) states
