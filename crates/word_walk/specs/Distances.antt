-- The least lengths of words that are accepted from states.
use Rattle.std.specs.Prelude.{◌≡◌, ◌==◌, ℕ, ◌-◌, ◌<◌, ◌&&◌, ◌||◌, Bool, true, false, not, if◌then◌else◌, List, length, slice_index_or, nat_lt}
use Rattle.std.specs.List.{list_any}
use Rattle.digit_tuple.specs.Deterministic.{Automaton, states_of, accepting_of, transitions_of}
use Rattle.digit_tuple.specs.declared.transitions.Transition.{Transition}
use Rattle.word_walk.specs.Levels.{lives}

-- no shorter word is accepted from the state; and if the number is not the greatest one, one of so many letters is
pub record IsDistance (d : Automaton) (q k : ℕ) : Type 0 where
  pub none : (m : ℕ) → m < k → lives d m q ≡ false
  pub some : k < 4294967295 → lives d k q ≡ true

-- the numbers, as far as they go, are the distances
abbrev pub AreDistances : Automaton → List ℕ → Type 0
AreDistances d distances = (q : ℕ) → q < length distances → IsDistance d q (slice_index_or distances q 0)

-- some transition leads to a state with a lesser number
abbrev pub leads_below : List ℕ → List Transition → ℕ → Bool
leads_below distances es k = list_any (λ e. nat_lt (slice_index_or distances e.target 0) k) es

-- the number of a state fits those of the targets of its transitions
abbrev pub fits : List ℕ → Bool → List Transition → ℕ → Bool
fits distances accepting es k = if k == 0 then accepting else ((not accepting && not (leads_below distances es (k - 1))) && ((k == 4294967295) || leads_below distances es k))

-- each number fits
abbrev pub AreSettled : Automaton → List ℕ → Type 0
AreSettled d distances = (q : ℕ) → q < states_of d → fits distances (accepting_of d q) (transitions_of d q) (slice_index_or distances q 0) ≡ true
