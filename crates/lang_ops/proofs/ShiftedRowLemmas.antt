-- States after others: their transitions are in range and in order.
use Rattle.std.proofs.Common.{◌≡◌, ℕ, ◌+◌, ◌<◌, ◌≤◌, List, [], ◌∷◌, ◌++◌, map, get_or, inl, sym, ap, ◌∙◌, arith}
use Rattle.std.specs.List.{All, range_with_len}
use Rattle.std.proofs.lemmas.List.{append_assoc, get_or-map, length-map, map-append}
use Rattle.std.proofs.lemmas.List.Elements.{All-map}
use Rattle.std.proofs.lemmas.List.FromFn.{map-range_with_len_more}
use Rattle.digit_tuple.specs.Automaton as branching
use Rattle.digit_tuple.specs.Automaton.{Branch, IsBefore, no_branch}
use Rattle.digit_tuple.specs.Deterministic.{Automaton, IsRow, IsTable, letters_of, no_state, state_of, states_of}
use Rattle.digit_tuple.specs.Rows.{branch_in, branches_in}
use Rattle.digit_tuple.specs.declared.transitions.NfaState.{NfaState}
use Rattle.digit_tuple.specs.declared.transitions.Transition.{Transition}
use Rattle.digit_tuple.proofs.RangeLemmas.{map-range-list}
use Rattle.lang_ops.specs.ShiftedRows.{shifted_state, shifted_transition}

pub IsRow-shifted : (letters states before total : ℕ) (es : List Transition) → IsRow letters states es → states + before ≤ total → branching.IsRow letters total (map (shifted_transition before) es)
IsRow-shifted letters states before total es row enough = record {
  in_range = All-map (λ (e : Transition). (e.letter < letters) × (e.target < total)) (shifted_transition before) es
      (λ k z inside. let e = row.in_range k z inside in (e.0, omega (arith, e.1, enough)));
  ascending = λ i j z first inside.
      let size = length-map es (shifted_transition before) in
      let one = get_or-map (shifted_transition before) es i z z (omega (arith, first, inside, size)) in
      let two = get_or-map (shifted_transition before) es j z z (omega (arith, inside, size)) in
      earlier (get_or (map (shifted_transition before) es) i z) (get_or (map (shifted_transition before) es) j z) (get_or es i z) (get_or es j z) one two (row.ascending i j z first (omega (arith, inside, size)));
}
  where
    earlier : (x y e f : Transition) → x ≡ shifted_transition before e → y ≡ shifted_transition before f → e.letter < f.letter → IsBefore x y
    earlier x y e f one two less = inl (omega (arith, less, ap (λ (t : Transition). t.letter) one, ap (λ (t : Transition). t.letter) two))

pub AllRows-shifted : (d : Automaton) → IsTable (letters_of d) d.states → (before total : ℕ) → states_of d + before ≤ total
    → All (λ (b : Branch). branching.IsRow (letters_of d) total b.transitions) (map (shifted_state before) d.states)
AllRows-shifted d table before total enough = All-map (λ (b : Branch). branching.IsRow (letters_of d) total b.transitions) (shifted_state before) d.states
    (λ k z inside. IsRow-shifted (letters_of d) (states_of d) before total (get_or d.states k z).transitions (table.part.rows k z inside) enough)

-- the first so many states
abbrev pub shifted_to : Automaton → ℕ → ℕ → List Branch
shifted_to d before count = map (λ q. shifted_state before (state_of d q)) (range_with_len 0 count)

-- one more
pub shifted_more : (d : Automaton) (before : ℕ) (prefix : List Branch) (rows : List NfaState) (state : ℕ) (row : NfaState) → branch_in row ≡ shifted_state before (state_of d state)
    → branches_in rows ≡ prefix ++ shifted_to d before state → branches_in (rows ++ row ∷ []) ≡ prefix ++ shifted_to d before (state + 1)
shifted_more d before prefix rows state row is are =
    map-append branch_in rows (row ∷ [])
    ∙ ap (λ (bs : List Branch). bs ++ branch_in row ∷ []) are
    ∙ append_assoc prefix (shifted_to d before state) (branch_in row ∷ [])
    ∙ ap (λ (b : Branch). prefix ++ (shifted_to d before state ++ b ∷ [])) is
    ∙ ap (λ (bs : List Branch). prefix ++ bs) (sym (map-range_with_len_more (λ q. shifted_state before (state_of d q)) 0 state state (omega arith)))

-- all of them
pub shifted_all : (d : Automaton) (before : ℕ) → shifted_to d before (states_of d) ≡ map (shifted_state before) d.states
shifted_all d before = map-range-list (shifted_state before) d.states no_state no_branch
