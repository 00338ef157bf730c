-- States of a deterministic automaton as keys, each alone.
use Rattle.std.specs.Prelude.{◌≡◌, ℕ, ◌<◌, Bool, List, [], ◌∷◌, length, Option, None, Some, MatchOption, ⊤, slice_index}
use Rattle.std.specs.Option.{option_map}
use Rattle.std.specs.Option as options
use Rattle.std.proofs.Common.{arith}
use Rattle.digit_tuple.specs.Deterministic.{Automaton, IsTable, states_of, letters_of, accepting_of, step_of}
use Rattle.digit_tuple.proofs.DfaLemmas.{row_at, target_by-in_range}

-- the state that is alone
abbrev pub state_in_key : List ℕ → ℕ
state_in_key key = slice_index key 0

-- where a letter leads from a state
abbrev pub state_after : Automaton → List ℕ → ℕ → Option (List ℕ)
state_after d key letter = option_map (λ q. q ∷ []) (step_of d (state_in_key key) letter)

-- whether a state accepts
abbrev pub state_accepts : Automaton → List ℕ → Bool
state_accepts d key = accepting_of d (state_in_key key)

-- a state alone
pub record IsStateKey (d : Automaton) (key : List ℕ) : Type 0 where
  pub one : length key ≡ 1
  pub within : state_in_key key < states_of d

pub start_is_state_key : (d : Automaton) → IsTable (letters_of d) d.states → IsStateKey d (0 ∷ [])
start_is_state_key d table = record { one = omega arith; within = table.initial }

pub after_is_state_key : (d : Automaton) (key : List ℕ) (letter : ℕ) → IsTable (letters_of d) d.states → IsStateKey d key → MatchOption (state_after d key letter) ⊤ (IsStateKey d)
after_is_state_key d key letter table is = by (step_of d (state_in_key key) letter) (target_by-in_range (letters_of d) (states_of d) _ letter (row_at d (state_in_key key) table is.within).in_range)
  where
    by : (o : Option ℕ) → options.IfSome o (λ q. q < states_of d) → MatchOption (option_map (λ q. q ∷ []) o) ⊤ (IsStateKey d)
    by None small = tt
    by (Some q) small = record { one = omega arith; within = small }
