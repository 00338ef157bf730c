-- The rows of a functional list are a deterministic automaton, which leads as the list does.
use Rattle.std.proofs.Common.{◌≡◌, ℕ, zero, suc, ◌<◌, ◌≤◌, List, [], ◌∷◌, length, get_or, Some, ◌⊎◌, inl, inr, refl, sym, ap, ◌∙◌, subst, arith}
use Rattle.std.specs.List.{All, AllPairs, AllZip, Contains}
use Rattle.std.specs.Option.{option_and_then}
use Rattle.std.proofs.lemmas.Bool.{cases_order}
use Rattle.std.proofs.lemmas.List.{length-map, get_or-map, get_or_past}
use Rattle.std.proofs.lemmas.List.Elements.{All-get_or, All-from_get_or, All-contains_itself}
use Rattle.digit_tuple.specs.declared.transitions.Transition.{Transition}
use Rattle.digit_tuple.specs.Automaton.{Branch, IsBefore, no_branch}
use Rattle.digit_tuple.specs.Automaton as branching
use Rattle.digit_tuple.specs.Deterministic.{Automaton, State, no_state, target_by, step_of, run_of, IsByEarlier, IsRow, IsTable}
use Rattle.digit_tuple.specs.Letters.{product, code_of}
use Rattle.digit_tuple.specs.Reversed.{branch_at}
use Rattle.digit_tuple.proofs.LetterLemmas.{code_of-injective}
use Rattle.digit_tuple.proofs.MemberLemmas.{Contains-none}
use Rattle.digit_tuple.proofs.ReversedLemmas.{target_by-contains, contains_from_target_by}
use Rattle.dfa_reading.specs.Branching.{IsLetterOfDigits}
use Rattle.dfa_reading.specs.BranchRows.{AreRowsOf, state_of_row, states_of_rows}
use Rattle.dfa_reading.specs.LineLetters.{transition_to}
use Rattle.dfa_reading.specs.Listed.{Listed, Moves, MovesAlong}
use Rattle.dfa_reading.specs.ListedTable.{IsTableOf, TableMovesAlong}
use Rattle.dfa_reading.specs.WordFiles.{IsFunctional}
use Rattle.dfa_reading.proofs.Letters.{takes_digits}
use Rattle.dfa_reading.proofs.Options.{bind_some}
use Rattle.dfa_reading.proofs.Rows.{rows-size, transition_moves, moves_transition, IsBranchTable-rows}

-- the tuple of a transition is one of digits, so its letter determines it
same_tuple : (sizes : List ℕ) (listed : Listed) (p q r : ℕ) (t u : List ℕ) → Moves sizes listed p t q → Moves sizes listed p u r → code_of sizes t ≡ code_of sizes u → t ≡ u
same_tuple sizes listed p q r t u (line, among, from, takes, to) (other, among', from', takes', to') codes =
    code_of-injective sizes t u (takes_digits sizes line.digits t takes) (takes_digits sizes other.digits u takes') codes

transitions_of_row : (rows : List Branch) (p : ℕ) → (get_or (states_of_rows rows) p no_state).transitions ≡ (branch_at rows p).transitions
transitions_of_row [] p = refl
transitions_of_row (row ∷ rows) zero = refl
transitions_of_row (row ∷ rows) (suc p) = transitions_of_row rows p

module _ (sizes : List ℕ) (listed : Listed) (rows : List Branch) (are : AreRowsOf sizes listed rows) (functional : IsFunctional sizes listed) where
  -- no two transitions of a state are by one letter
  one_target : (p letter q r : ℕ) → Contains (branch_at rows p).transitions (transition_to q letter) → Contains (branch_at rows p).transitions (transition_to r letter) → q ≡ r
  one_target p letter q r one two =
      let (t, moves, code) = transition_moves sizes listed rows are p letter q one in
      let (u, moves', code') = transition_moves sizes listed rows are p letter r two in
      functional p t q r moves (subst (λ (v : List ℕ). Moves sizes listed p v r) (sym (same_tuple sizes listed p q r t u moves moves' (sym code ∙ code'))) moves')

  by_letter : (p : ℕ) → p < length rows → AllPairs IsByEarlier (branch_at rows p).transitions
  by_letter p within i j d before low =
      let transitions = (branch_at rows p).transitions in
      let e = get_or transitions i d in
      let f = get_or transitions j d in
      elim (are.ordered.ascending p within i j d before low) [
        | inl less ↦ less
        | inr same ↦ (
            let one : Contains transitions e = All-contains_itself transitions i d (omega arith) in
            let two : Contains transitions f = All-contains_itself transitions j d low in
            let is : e.target ≡ f.target = one_target p f.letter e.target f.target (subst (λ (l : ℕ). Contains transitions (transition_to e.target l)) same.0 one) two in
            absurd (omega (arith, is, same.1)))
      ]

  -- a letter leads where a transition by it does
  contained : (p letter q : ℕ) → Contains (branch_at rows p).transitions (transition_to q letter) → target_by (branch_at rows p).transitions letter ≡ Some q
  contained p letter q there = by (cases_order p (length rows))
    where
      past : length rows ≤ p → target_by (branch_at rows p).transitions letter ≡ Some q
      past high = absurd (Contains-none (transition_to q letter) (subst (λ (b : Branch). Contains b.transitions (transition_to q letter)) (get_or_past rows p no_branch high) there))

      by : (p ≡ length rows) ⊎ ((p < length rows) ⊎ (length rows < p)) → target_by (branch_at rows p).transitions letter ≡ Some q
      by (inl is) = past (omega (arith, is))
      by (inr (inl less)) = target_by-contains (branch_at rows p).transitions letter q (by_letter p less) there
      by (inr (inr more)) = past (omega (arith, more))

  leads : (p letter q : ℕ) → step_of (record { sizes = sizes; states = states_of_rows rows }) p letter ≡ Some q → (tuple : List ℕ) × Moves sizes listed p tuple q × (letter ≡ code_of sizes tuple)
  leads p letter q h = transition_moves sizes listed rows are p letter q (contains_from_target_by (branch_at rows p).transitions letter q (sym (ap (λ (es : List Transition). target_by es letter) (transitions_of_row rows p)) ∙ h))

  led : (p letter q : ℕ) → (tuple : List ℕ) × Moves sizes listed p tuple q × (letter ≡ code_of sizes tuple) → step_of (record { sizes = sizes; states = states_of_rows rows }) p letter ≡ Some q
  led p letter q (tuple, moves, code) = ap (λ (es : List Transition). target_by es letter) (transitions_of_row rows p) ∙ contained p letter q (moves_transition sizes listed rows are p letter q tuple moves code)

  pub IsTableOf-rows : IsTableOf sizes listed (record { sizes = sizes; states = states_of_rows rows })
  IsTableOf-rows = record {
    sizes_are = refl;
    states = length-map rows state_of_row ∙ rows-size sizes listed rows are;
    accepting = λ q within. ap (λ (s : State). s.accepting) (get_or-map state_of_row rows q no_branch no_state (omega (arith, within, length-map rows state_of_row)));
    steps = λ p letter q. (leads p letter q, led p letter q);
  }

  pub IsTable-rows : 0 < length listed.outputs → IsTable (product sizes) (states_of_rows rows)
  IsTable-rows some =
      let table_is = IsBranchTable-rows sizes listed rows are some in
      let size = length-map rows state_of_row in
      record {
        initial = omega (arith, size, table_is.initial);
        part = record {
          small = omega (arith, size, table_is.small);
          rows = All-from_get_or (λ (s : State). IsRow (product sizes) (length (states_of_rows rows)) s.transitions) (states_of_rows rows) no_state
              (λ p within. subst (λ (es : List Transition). IsRow (product sizes) (length (states_of_rows rows)) es) (sym (transitions_of_row rows p)) (row p (omega (arith, within, size))));
        };
      }
    where
      row : (p : ℕ) → p < length rows → IsRow (product sizes) (length (states_of_rows rows)) (branch_at rows p).transitions
      row p within = record {
        in_range = subst (λ (n : ℕ). All (λ transition. (transition.letter < product sizes) × (transition.target < n)) (branch_at rows p).transitions) (sym (length-map rows state_of_row))
            (All-get_or (λ (b : Branch). branching.IsRow (product sizes) (length rows) b.transitions) rows p no_branch within (IsBranchTable-rows sizes listed rows are some).rows).in_range;
        ascending = by_letter p within;
      }

-- the table leads by words as the list does
module _ (sizes : List ℕ) (listed : Listed) (d : Automaton) (is : IsTableOf sizes listed d) where
  run_moves : (tuples : List (List ℕ)) (letters : List ℕ) (p q : ℕ) → AllZip (IsLetterOfDigits sizes) tuples letters → run_of d p letters ≡ Some q → MovesAlong sizes listed p tuples q
  run_moves [] [] p q codes run = let e : Some p ≡ Some q = run in cc
  run_moves [] (a ∷ letters) p q codes run = absurd codes
  run_moves (t ∷ tuples) [] p q codes run = absurd codes
  run_moves (t ∷ tuples) (a ∷ letters) p q codes run =
      let (r, leads, rest) = bind_some (step_of d p a) (λ r. run_of d r letters) q run in
      let (tuple, moves, code) = (is.steps p a r).0 leads in
      let (line, among, from, takes, to) = moves in
      let same : tuple ≡ t = code_of-injective sizes tuple t (takes_digits sizes line.digits tuple takes) codes.0.fit (sym code ∙ codes.0.letter_is) in
      (r, subst (λ (u : List ℕ). Moves sizes listed p u r) same moves, run_moves tuples letters r q codes.1 rest)

  moves_run : (tuples : List (List ℕ)) (letters : List ℕ) (p q : ℕ) → AllZip (IsLetterOfDigits sizes) tuples letters → MovesAlong sizes listed p tuples q → run_of d p letters ≡ Some q
  moves_run [] [] p q codes along = ap Some along
  moves_run [] (a ∷ letters) p q codes along = absurd codes
  moves_run (t ∷ tuples) [] p q codes along = absurd codes
  moves_run (t ∷ tuples) (a ∷ letters) p q codes (r, moves, along) =
      ap (λ o. option_and_then (λ s. run_of d s letters) o) ((is.steps p a r).1 (t, moves, codes.0.letter_is)) ∙ moves_run tuples letters r q codes.1 along

pub moves_along : TableMovesAlong
moves_along sizes listed d is p q tuples letters codes = (run_moves sizes listed d is tuples letters p q codes, moves_run sizes listed d is tuples letters p q codes)
