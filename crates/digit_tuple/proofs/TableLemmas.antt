-- Tables of nondeterministic automata: their transitions and their rows.
use Rattle.std.proofs.Common.{◌≡◌, ℕ, ◌<◌, ◌^◌, inl, inr, List, [], length, get_or, arith, ap, subst, sym, ◌∙◌}
use Rattle.std.specs.List.{All}
use Rattle.std.proofs.lemmas.Bool.{cases_lt}
use Rattle.std.proofs.lemmas.List.{get_or-map, get_or_past, length-map}
use Rattle.std.proofs.lemmas.List.Elements.{All-map, All-contains}
use Rattle.digit_tuple.specs.Automaton.{Branching, Branch, Leads, IsBefore, transitions_of, states_of, letters_of, no_branch, IsRow, IsBranchTable}
use Rattle.digit_tuple.specs.declared.transitions.Transition.{Transition}
use Rattle.digit_tuple.specs.declared.transitions.NfaState.{NfaState}
use Rattle.digit_tuple.specs.Rows.{branch_in, branches_in}

pub IsBefore-trans : (e f g : Transition) → IsBefore e f → IsBefore f g → IsBefore e g
IsBefore-trans e f g first second = grind arith

-- the transitions of a state of the table
pub transitions_of-rows : (n : Branching) (rows : List NfaState) (q : ℕ) (d : NfaState) → n.states ≡ branches_in rows → q < length rows → transitions_of n q ≡ (get_or rows q d).transitions.items
transitions_of-rows n rows q d e within =
    ap (λ (bs : List Branch). (get_or bs q no_branch).transitions) e ∙ ap (λ (b : Branch). b.transitions) (get_or-map branch_in rows q d no_branch within)

-- the transitions of a state are in range and in order
pub IsRow-transitions_of : (n : Branching) (q : ℕ) → IsBranchTable (letters_of n) n.states → q < states_of n → IsRow (letters_of n) (states_of n) (transitions_of n q)
IsRow-transitions_of n q table within = table.rows q no_branch within

-- a state with a transition is there
pub from_state : (n : Branching) (p a q : ℕ) → Leads n p a q → p < states_of n
from_state n p a q leads =
    elim (cases_lt p (states_of n)) [
      | inl within ↦ within
      | inr past ↦ absurd (let none : transitions_of n p ≡ [] = ap (λ (b : Branch). b.transitions) (get_or_past n.states p no_branch past) in
          let at : leads.0 < length (transitions_of n p) = leads.1 in
          omega (arith, at, ap length none))
    ]

-- a transition is by a letter of the alphabet and leads to a state
pub Leads-in_range : (n : Branching) (p a q : ℕ) → IsBranchTable (letters_of n) n.states → Leads n p a q → (a < letters_of n) × (q < states_of n)
Leads-in_range n p a q table leads =
    let transition : Transition = record { letter = a; target = q } in
    let row = IsRow-transitions_of n p table (from_state n p a q leads) in
    All-contains (λ (e : Transition). (e.letter < letters_of n) × (e.target < states_of n)) (transitions_of n p) transition row.in_range leads

-- the states that rows denote
pub table_from_rows : (letters : ℕ) (rows : List NfaState) → 0 < length rows → length rows < 2 ^ 32 → All (λ state. IsRow letters (length rows) state.transitions.items) rows → IsBranchTable letters (branches_in rows)
table_from_rows letters rows initial small each =
    let same : length rows ≡ length (branches_in rows) = sym (length-map rows branch_in) in
    record {
      initial = omega arith;
      small = omega arith;
      rows = subst (λ n. All (λ (b : Branch). IsRow letters n b.transitions) (branches_in rows)) same (All-map (λ (b : Branch). IsRow letters (length rows) b.transitions) branch_in rows each);
    }

pub row_from_table : (letters : ℕ) (rows : List NfaState) (q : ℕ) (d : NfaState) → IsBranchTable letters (branches_in rows) → q < length rows → IsRow letters (length rows) (get_or rows q d).transitions.items
row_from_table letters rows q d table within =
    let same : length (branches_in rows) ≡ length rows = length-map rows branch_in in
    let there : q < length (branches_in rows) = omega arith in
    subst (λ n. IsRow letters n (get_or rows q d).transitions.items) same
    (subst (λ (b : Branch). IsRow letters (length (branches_in rows)) b.transitions) (get_or-map branch_in rows q d no_branch within) (table.rows q no_branch there))
