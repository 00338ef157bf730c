-- The sets that letters lead to are sets of states in order.
use Rattle.std.specs.Prelude.{ℕ, zero, suc, ◌<◌, List, [], ◌∷◌, MatchOption, ⊤}
use Rattle.std.specs.List.{All, AllPairs, range_with_len}
use Rattle.std.proofs.Common.{arith}
use Rattle.std.proofs.lemmas.List.Elements.{All-filter}
use Rattle.std.proofs.lemmas.List.Kept.{AllPairs-filter}
use Rattle.std.proofs.lemmas.List.FromFn.{length-range_with_len, get_or-range_with_len}
use Rattle.digit_tuple.specs.Automaton.{Branching, IsBranchTable, letters_of, states_of}
use Rattle.digit_tuple.specs.Groups.{some_set}
use Rattle.determinise.specs.Subsets.{IsStateSet, leads_to, targets_of, set_after}

pub All-range : (n : ℕ) → All (λ q. q < n) (range_with_len 0 n)
All-range n k d within =
    let size = length-range_with_len 0 n in
    let at = get_or-range_with_len 0 n k d (omega arith) in omega arith

pub AllPairs-range : (n : ℕ) → AllPairs (λ p q. p < q) (range_with_len 0 n)
AllPairs-range n i j d before within =
    let size = length-range_with_len 0 n in
    let one = get_or-range_with_len 0 n i d (omega arith) in
    let two = get_or-range_with_len 0 n j d (omega arith) in omega arith

-- the initial state alone
pub start_is_state_set : (n : Branching) → IsBranchTable (letters_of n) n.states → IsStateSet n (0 ∷ [])
start_is_state_set n table = record { some = omega arith; in_range = initial; ascending = λ i j d before within. absurd (omega arith) }
  where
    initial : All (λ q. q < states_of n) (0 ∷ [])
    initial zero d within = table.initial
    initial (suc k) d within = absurd (omega arith)

-- the set that a letter leads to
pub after_is_state_set : (n : Branching) (set : List ℕ) (letter : ℕ) → MatchOption (set_after n set letter) ⊤ (IsStateSet n)
after_is_state_set n set letter = by (targets_of n set letter)
    (All-filter (leads_to n set letter) (λ q. q < states_of n) (range_with_len 0 (states_of n)) (All-range (states_of n)))
    (AllPairs-filter (λ p q. p < q) (leads_to n set letter) (range_with_len 0 (states_of n)) (AllPairs-range (states_of n)))
  where
    by : (targets : List ℕ) → All (λ q. q < states_of n) targets → AllPairs (λ p q. p < q) targets → MatchOption (some_set targets) ⊤ (IsStateSet n)
    by [] in_range ascending = tt
    by (q ∷ qs) in_range ascending = record { some = omega arith; in_range = in_range; ascending = ascending }
