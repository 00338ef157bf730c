-- Where letters lead from all states of an automaton, state by state.
use Rattle.std.specs.Prelude.{◌≡◌, ℕ, ◌+◌, List, [], map, ◌⊎◌}
use Rattle.std.specs.List.{flat_map, range_with_len}
use Rattle.digit_tuple.specs.Deterministic.{Automaton, letters_of, states_of}
use Rattle.residual_classes.specs.Classes.{next_of}

-- where each letter of the automaton leads from a state
abbrev pub next_list : Automaton → ℕ → List ℕ
next_list d state = map (next_of d state) (range_with_len 0 (letters_of d))

-- that of each state, and last of the sink
abbrev pub all_rows : Automaton → List ℕ
all_rows d = flat_map (next_list d) (range_with_len 0 (states_of d + 1))

-- it is kept, or nothing is
abbrev pub IsKept : Automaton → List ℕ → Type 0
IsKept d next = (next ≡ []) ⊎ (next ≡ all_rows d)
