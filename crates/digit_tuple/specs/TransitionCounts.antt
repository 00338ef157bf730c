-- How many transitions an automaton has, and how many cells they take as decisions by tracks.
use Rattle.std.specs.Prelude.{ℕ, sum_by, length}
use Rattle.digit_tuple.specs.CellCounts.{cells_of}
use Rattle.digit_tuple.specs.Deterministic.{Automaton}

abbrev pub transition_count : Automaton → ℕ
transition_count d = sum_by (λ state. length state.transitions) d.states

abbrev pub cell_count : Automaton → ℕ
cell_count d = sum_by (λ state. cells_of d.sizes state.transitions) d.states
