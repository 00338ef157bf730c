-- Automata with their transitions reversed.
use Rattle.std.specs.Prelude.{◌≡◌, ℕ, ◌<◌, true, List, [], ◌∷◌, ◌++◌, length, Some, ◌↔◌, ◌⊎◌, slice_index_or}
use Rattle.std.specs.List.{Contains}
use Rattle.digit_tuple.specs.Automaton as branching
use Rattle.digit_tuple.specs.Automaton.{Branching, Branch, no_branch, Leads}
use Rattle.digit_tuple.specs.declared.transitions.Transition.{Transition}
use Rattle.digit_tuple.specs.Deterministic.{Automaton, states_of, step_of}

-- the transitions of the one are those of the other, reversed; only the initial state accepts
pub record IsReversal (d : Automaton) (n : Branching) : Type 0 where
  pub sizes : n.sizes ≡ d.sizes
  pub states : branching.states_of n ≡ states_of d
  pub leads : (q letter p : ℕ) → Leads n q letter p ↔ ((p < states_of d) × (step_of d p letter ≡ Some q))
  pub accepting : (q : ℕ) → (branching.accepting_of n q ≡ true) ↔ (q ≡ 0)

-- the state at a place of a table
abbrev pub branch_at : List Branch → ℕ → Branch
branch_at rows place = slice_index_or rows place no_branch

-- so many states without transitions, of which the first accepts
pub record AreBare (rows : List Branch) (count : ℕ) : Type 0 where
  pub count_is : length rows ≡ count
  pub transitions : (q : ℕ) → (branch_at rows q).transitions ≡ []
  pub accepting : (q : ℕ) → ((branch_at rows q).accepting ≡ true) ↔ ((q ≡ 0) × (q < count))

-- the state with one more transition
abbrev pub with_transition : Branch → Transition → Branch
with_transition branch transition = record { accepting = branch.accepting; transitions = branch.transitions ++ transition ∷ [] }

-- the transition by the letter to the target
abbrev pub transition_to : ℕ → ℕ → Transition
transition_to letter target = record { letter = letter; target = target }

-- the rows have got the transitions of the state, reversed
pub record AreFed (old new : List Branch) (transitions : List Transition) (state : ℕ) : Type 0 where
  pub count : length new ≡ length old
  pub accepting : (q : ℕ) → (branch_at new q).accepting ≡ (branch_at old q).accepting
  pub transitions_are : (q : ℕ) (transition : Transition) → Contains (branch_at new q).transitions transition ↔ (Contains (branch_at old q).transitions transition ⊎ ((transition.target ≡ state) × Contains transitions (transition_to transition.letter q)))

-- the states have the same transitions, and both accept or neither does
pub record SameBranch (b c : Branch) : Type 0 where
  pub accepting : c.accepting ≡ b.accepting
  pub transitions : (transition : Transition) → Contains c.transitions transition ↔ Contains b.transitions transition
