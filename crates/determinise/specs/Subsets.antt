-- Sets of states of a nondeterministic automaton that words lead to.
use Rattle.std.specs.Prelude.{◌==◌, ◌&&◌, ℕ, ◌<◌, Bool, List, length, Option, ◌↔◌, filter}
use Rattle.std.specs.List.{All, AllPairs, list_any, range_with_len}
use Rattle.digit_tuple.specs.Groups.{some_set}
use Rattle.digit_tuple.specs.Automaton.{Branching, Path, transitions_of, states_of, accepting_of}

-- the two words lead to the same states
abbrev pub Alike : Branching → List ℕ → List ℕ → Type 0
Alike n w v = (q : ℕ) → Path n 0 w q ↔ Path n 0 v q

-- whether the letter leads from a state of the set to q
abbrev pub leads_to : Branching → List ℕ → ℕ → ℕ → Bool
leads_to n set letter q = list_any (λ p. list_any (λ transition. (transition.letter == letter) && (transition.target == q)) (transitions_of n p)) set

-- the states that the letter leads to from the set, in order
abbrev pub targets_of : Branching → List ℕ → ℕ → List ℕ
targets_of n set letter = filter (leads_to n set letter) (range_with_len 0 (states_of n))

-- the set that the letter leads to from the set, unless it is empty
abbrev pub set_after : Branching → List ℕ → ℕ → Option (List ℕ)
set_after n set letter = some_set (targets_of n set letter)

-- whether a state of the set accepts
abbrev pub has_accepting : Branching → List ℕ → Bool
has_accepting n set = list_any (accepting_of n) set

-- some states, in order
pub record IsStateSet (n : Branching) (set : List ℕ) : Type 0 where
  pub some : 0 < length set
  pub in_range : All (λ q. q < states_of n) set
  pub ascending : AllPairs (λ p q. p < q) set
