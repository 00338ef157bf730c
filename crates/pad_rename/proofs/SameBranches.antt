-- The rows of a deterministic automaton as those of a nondeterministic one.
use Rattle.std.proofs.Common.{◌≡◌, ℕ, ◌+◌, Bool, List, [], ◌∷◌, ◌++◌, map, sym, ap, ◌∙◌, arith}
use Rattle.std.specs.List.{range_with_len}
use Rattle.std.proofs.lemmas.List.{map-append}
use Rattle.std.proofs.lemmas.List.FromFn.{map-range_with_len_more}
use Rattle.digit_tuple.specs.Automaton.{Branch, no_branch}
use Rattle.digit_tuple.specs.Deterministic.{Automaton, no_state, state_of, states_of, accepting_of, transitions_of}
use Rattle.digit_tuple.specs.Rows.{branch_in, branches_in}
use Rattle.digit_tuple.specs.declared.transitions.Transition.{Transition}
use Rattle.digit_tuple.specs.declared.transitions.NfaState.{NfaState}
use Rattle.digit_tuple.proofs.RangeLemmas.{map-range-list}
use Rattle.pad_rename.specs.SameBranching.{branch_as}

-- the first so many rows
abbrev pub rows_to : Automaton → ℕ → List Branch
rows_to d count = map (λ q. branch_as (state_of d q)) (range_with_len 0 count)

-- one more
pub rows_more : (d : Automaton) (rows : List NfaState) (state : ℕ) (row : NfaState) → row.accepting ≡ accepting_of d state → row.transitions.items ≡ transitions_of d state → branches_in rows ≡ rows_to d state
    → branches_in (rows ++ row ∷ []) ≡ rows_to d (state + 1)
rows_more d rows state row accepting transitions before =
    map-append branch_in rows (row ∷ [])
    ∙ ap (λ (bs : List Branch). bs ++ branch_in row ∷ []) before
    ∙ ap (λ (b : Branch). rows_to d state ++ b ∷ []) (ap (λ (x : Bool). let b : Branch = record { accepting = x; transitions = row.transitions.items } in b) accepting ∙ ap (λ (es : List Transition). let b : Branch = record { accepting = accepting_of d state; transitions = es } in b) transitions)
    ∙ sym (map-range_with_len_more (λ q. branch_as (state_of d q)) 0 state state (omega arith))

-- all of them
pub rows_all : (d : Automaton) → rows_to d (states_of d) ≡ map branch_as d.states
rows_all d = map-range-list branch_as d.states no_state no_branch
