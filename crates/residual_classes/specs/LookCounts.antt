-- How many transitions a round looks at.
use Rattle.std.specs.Prelude.{ℕ, ◌&&◌, List, nat_lt, nat_le, sum_by}
use Rattle.std.specs.List.{count_by}
use Rattle.digit_tuple.specs.Deterministic.{Automaton}
use Rattle.digit_tuple.specs.declared.transitions.Transition.{Transition}

-- how many transitions are by letters from the first to before the end
abbrev pub looked_at : ℕ → ℕ → List Transition → ℕ
looked_at first end transitions = count_by (λ (transition : Transition). nat_le first transition.letter && nat_lt transition.letter end) transitions

-- how many of all transitions are
abbrev pub all_looked_at : ℕ → ℕ → Automaton → ℕ
all_looked_at first end d = sum_by (λ state. looked_at first end state.transitions) d.states
