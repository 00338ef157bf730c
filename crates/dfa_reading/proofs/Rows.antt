-- The rows of listed states are the branching automaton of what is listed.
use Rattle.std.proofs.Common.{◌≡◌, ◌≢◌, ℕ, zero, suc, ◌+◌, ◌<◌, Bool, true, false, not, List, [], ◌∷◌, ◌++◌, map, set, length, get_or, ℤ, pos, Option, None, Some, ◌↔◌, ◌⊎◌, inl, inr, refl, sym, ap, ◌∙◌, subst, true≢false, arith, get_or-set_same, get_or-set_other, length-set}
use Rattle.std.specs.List.{All, AllPairs, Contains}
use Rattle.std.specs.Ordering.{int_eq}
use Rattle.std.proofs.lemmas.Bool.{cases_order}
use Rattle.std.proofs.lemmas.Bool.Decides.{Decides-int_eq}
use Rattle.std.proofs.lemmas.List.{length-map}
use Rattle.std.proofs.lemmas.List.Elements.{Contains-append_left, Contains-append_right, All-contains, All-contains_itself, All-from_get_or}
use Rattle.digit_tuple.specs.declared.transitions.Transition.{Transition}
use Rattle.digit_tuple.specs.Automaton.{Branch, IsBefore, IsRow, IsBranchTable, no_branch}
use Rattle.digit_tuple.specs.Letters.{product, code_of}
use Rattle.digit_tuple.specs.Reversed.{SameBranch, branch_at}
use Rattle.digit_tuple.proofs.MemberLemmas.{Contains-head, Contains-tail, Contains-cases, Contains-none, Contains-map, Contains-from_map, Contains-flat_map, Contains-from_flat_map}
use Rattle.dfa_reading.specs.Listed.{ListedLine, Listed, IsListedLine, Moves, output_of}
use Rattle.dfa_reading.specs.LineLetters.{letters_taken, transition_to, transitions_of_line}
use Rattle.dfa_reading.specs.Headers.{Header, Truth, Systems, Sets, Members, Below, digits_in}
use Rattle.dfa_reading.specs.Systems.{digit_limit}
use Rattle.dfa_reading.specs.Branching.{AreGiven, IsBranching, sizes_in}
use Rattle.dfa_reading.specs.BranchRows.{is_accepting_output, bare_row, with_transitions, with_line, rows_after, AreInOrder, AreRowsOf}
use Rattle.dfa_reading.proofs.Letters.{tuple_of_letter, letter_of_tuple, letter_below}

-- a size for each track
pub digits-sizes : (header : Header) (digits sizes : List ℕ) → AreGiven header digits → sizes ≡ sizes_in header digits → length (digits_in header) ≡ length sizes
digits-sizes (Truth value) digits sizes given is = sym (ap length is)
digits-sizes (Systems names) digits sizes given is = length-map names (λ name. Below (digit_limit name)) ∙ sym given ∙ sym (ap length is)
digits-sizes (Sets sets) digits sizes given is = length-map sets Members ∙ sym (length-map sets length) ∙ sym (ap length is)

-- one more row in order
pub AreInOrder-next : (old rows : List Branch) (place : ℕ) (row : Branch) → place < length rows → AreInOrder old rows place → SameBranch (branch_at rows place) row → AllPairs IsBefore row.transitions → AreInOrder old (set rows place row) (place + 1)
AreInOrder-next old rows place row within sorted same ascending = record {
  size = length-set rows place row ∙ sorted.size;
  same = λ q. same_at q (cases_order q place);
  ascending = λ q low. in_order q low (cases_order q place);
}
  where
    here : branch_at (set rows place row) place ≡ row
    here = get_or-set_same rows place row no_branch within

    other : (q : ℕ) → q ≢ place → branch_at (set rows place row) q ≡ branch_at rows q
    other q differs = get_or-set_other rows place q row no_branch differs

    joined : (b c d : Branch) → SameBranch b c → SameBranch c d → SameBranch b d
    joined b c d one two = record { accepting = two.accepting ∙ one.accepting; transitions = λ e. ((λ h. (one.transitions e).0 ((two.transitions e).0 h)), (λ h. (two.transitions e).1 ((one.transitions e).1 h))) }

    same_at : (q : ℕ) → (q ≡ place) ⊎ ((q < place) ⊎ (place < q)) → SameBranch (branch_at old q) (branch_at (set rows place row) q)
    same_at q (inl is) = subst (λ n. SameBranch (branch_at old n) (branch_at (set rows place row) n)) (sym is)
        (subst (SameBranch (branch_at old place)) (sym here) (joined (branch_at old place) (branch_at rows place) row (sorted.same place) same))
    same_at q (inr (inl less)) = subst (SameBranch (branch_at old q)) (sym (other q (omega arith))) (sorted.same q)
    same_at q (inr (inr more)) = subst (SameBranch (branch_at old q)) (sym (other q (omega arith))) (sorted.same q)

    in_order : (q : ℕ) → q < place + 1 → (q ≡ place) ⊎ ((q < place) ⊎ (place < q)) → AllPairs IsBefore (branch_at (set rows place row) q).transitions
    in_order q low (inl is) = subst (λ n. AllPairs IsBefore (branch_at (set rows place row) n).transitions) (sym is) (subst (λ (b : Branch). AllPairs IsBefore b.transitions) (sym here) ascending)
    in_order q low (inr (inl less)) = subst (λ (b : Branch). AllPairs IsBefore b.transitions) (sym (other q (omega arith))) (sorted.ascending q less)
    in_order q low (inr (inr more)) = absurd (omega arith)

-- a line's transitions are added to its state
length-with_line : (sizes : List ℕ) (rows : List Branch) (line : ListedLine) → length (with_line sizes rows line) ≡ length rows
length-with_line sizes rows line = length-set rows line.state (with_transitions (branch_at rows line.state) (transitions_of_line sizes line))

pub length-rows_after : (sizes : List ℕ) (rows : List Branch) (lines : List ListedLine) → length (rows_after sizes rows lines) ≡ length rows
length-rows_after sizes rows [] = refl
length-rows_after sizes rows (line ∷ lines) = length-rows_after sizes (with_line sizes rows line) lines ∙ length-with_line sizes rows line

-- the transition is of a line of the state
pub record IsTransitionOf (sizes : List ℕ) (lines : List ListedLine) (state : ℕ) (transition : Transition) : Type 0 where
  pub line : ListedLine
  pub among : Contains lines line
  pub from : line.state ≡ state
  pub transition_is : Contains (transitions_of_line sizes line) transition

IsTransitionOf-later : (sizes : List ℕ) (line : ListedLine) (lines : List ListedLine) (q : ℕ) (e : Transition) → IsTransitionOf sizes lines q e → IsTransitionOf sizes (line ∷ lines) q e
IsTransitionOf-later sizes line lines q e h = record { line = h.line; among = Contains-tail line lines h.line h.among; from = h.from; transition_is = h.transition_is }

module _ (sizes : List ℕ) where
  -- what a row has after a line
  row_with : (rows : List Branch) (line : ListedLine) (q : ℕ) → line.state < length rows → (q ≡ line.state) ⊎ ((q < line.state) ⊎ (line.state < q)) → ((q ≡ line.state) × (branch_at (with_line sizes rows line) q ≡ with_transitions (branch_at rows q) (transitions_of_line sizes line))) ⊎ ((q ≢ line.state) × (branch_at (with_line sizes rows line) q ≡ branch_at rows q))
  row_with rows line q within (inl is) = inl (is, subst (λ n. branch_at (with_line sizes rows line) n ≡ with_transitions (branch_at rows n) (transitions_of_line sizes line)) (sym is) (get_or-set_same rows line.state (with_transitions (branch_at rows line.state) (transitions_of_line sizes line)) no_branch within))
  row_with rows line q within (inr (inl less)) = let apart : q ≢ line.state = omega arith in inr (apart, get_or-set_other rows line.state q (with_transitions (branch_at rows line.state) (transitions_of_line sizes line)) no_branch apart)
  row_with rows line q within (inr (inr more)) = let apart : q ≢ line.state = omega arith in inr (apart, get_or-set_other rows line.state q (with_transitions (branch_at rows line.state) (transitions_of_line sizes line)) no_branch apart)

  accepting_with : (rows : List Branch) (line : ListedLine) (q : ℕ) → line.state < length rows → (branch_at (with_line sizes rows line) q).accepting ≡ (branch_at rows q).accepting
  accepting_with rows line q within = by (row_with rows line q within (cases_order q line.state))
    where
      by : ((q ≡ line.state) × (branch_at (with_line sizes rows line) q ≡ with_transitions (branch_at rows q) (transitions_of_line sizes line))) ⊎ ((q ≢ line.state) × (branch_at (with_line sizes rows line) q ≡ branch_at rows q)) → (branch_at (with_line sizes rows line) q).accepting ≡ (branch_at rows q).accepting
      by (inl h) = ap (λ (b : Branch). b.accepting) h.1
      by (inr h) = ap (λ (b : Branch). b.accepting) h.1

  pub accepting_after : (rows : List Branch) (lines : List ListedLine) (q : ℕ) → All (λ line. line.state < length rows) lines → (branch_at (rows_after sizes rows lines) q).accepting ≡ (branch_at rows q).accepting
  accepting_after rows [] q inside = refl
  accepting_after rows (line ∷ lines) q inside =
      accepting_after (with_line sizes rows line) lines q (λ k d lt. let less = inside (suc k) d (omega arith) in omega (arith, less, length-with_line sizes rows line))
      ∙ accepting_with rows line q (inside 0 line (omega arith))

  -- the transitions of a row are those that it had and those of the lines
  transition_in : (rows : List Branch) (lines : List ListedLine) (q : ℕ) (e : Transition) → All (λ line. line.state < length rows) lines → Contains (branch_at (rows_after sizes rows lines) q).transitions e → Contains (branch_at rows q).transitions e ⊎ IsTransitionOf sizes lines q e
  transition_in rows [] q e inside there = inl there
  transition_in rows (line ∷ lines) q e inside there =
      by (transition_in (with_line sizes rows line) lines q e (λ k d lt. let less = inside (suc k) d (omega arith) in omega (arith, less, length-with_line sizes rows line)) there) (row_with rows line q (inside 0 line (omega arith)) (cases_order q line.state))
    where
      split : (xs ys : List Transition) → Contains (xs ++ ys) e → Contains xs e ⊎ Contains ys e
      split [] ys h = inr h
      split (x ∷ xs) ys h = elim (Contains-cases x (xs ++ ys) e h) [
        | inl same ↦ inl (subst (Contains (x ∷ xs)) same (Contains-head x xs))
        | inr more ↦ elim (split xs ys more) [ inl one ↦ inl (Contains-tail x xs e one) | inr two ↦ inr two ]
      ]

      by : Contains (branch_at (with_line sizes rows line) q).transitions e ⊎ IsTransitionOf sizes lines q e → ((q ≡ line.state) × (branch_at (with_line sizes rows line) q ≡ with_transitions (branch_at rows q) (transitions_of_line sizes line))) ⊎ ((q ≢ line.state) × (branch_at (with_line sizes rows line) q ≡ branch_at rows q))
          → Contains (branch_at rows q).transitions e ⊎ IsTransitionOf sizes (line ∷ lines) q e
      by (inr later) at = inr (IsTransitionOf-later sizes line lines q e later)
      by (inl now) (inl (is, row)) = elim (split (branch_at rows q).transitions (transitions_of_line sizes line) (subst (λ (b : Branch). Contains b.transitions e) row now)) [
        | inl before ↦ inl before
        | inr new ↦ inr (record { line = line; among = Contains-head line lines; from = sym is; transition_is = new })
      ]
      by (inl now) (inr (apart, row)) = inl (subst (λ (b : Branch). Contains b.transitions e) row now)

  transition_stays : (rows : List Branch) (lines : List ListedLine) (q : ℕ) (e : Transition) → All (λ line. line.state < length rows) lines → Contains (branch_at rows q).transitions e ⊎ IsTransitionOf sizes lines q e → Contains (branch_at (rows_after sizes rows lines) q).transitions e
  transition_stays rows [] q e inside (inl there) = there
  transition_stays rows [] q e inside (inr of) = absurd (Contains-none of.line of.among)
  transition_stays rows (line ∷ lines) q e inside either =
      transition_stays (with_line sizes rows line) lines q e (λ k d lt. let less = inside (suc k) d (omega arith) in omega (arith, less, length-with_line sizes rows line)) (by either (row_with rows line q (inside 0 line (omega arith)) (cases_order q line.state)))
    where
      by : Contains (branch_at rows q).transitions e ⊎ IsTransitionOf sizes (line ∷ lines) q e → ((q ≡ line.state) × (branch_at (with_line sizes rows line) q ≡ with_transitions (branch_at rows q) (transitions_of_line sizes line))) ⊎ ((q ≢ line.state) × (branch_at (with_line sizes rows line) q ≡ branch_at rows q))
          → Contains (branch_at (with_line sizes rows line) q).transitions e ⊎ IsTransitionOf sizes lines q e
      by (inl there) (inl (is, row)) = inl (subst (λ (b : Branch). Contains b.transitions e) (sym row) (Contains-append_left (branch_at rows q).transitions (transitions_of_line sizes line) e there))
      by (inl there) (inr (apart, row)) = inl (subst (λ (b : Branch). Contains b.transitions e) (sym row) there)
      by (inr of) at = elim (Contains-cases line lines of.line of.among) [
        | inl same ↦ here at (sym same)
        | inr later ↦ inr (record { line = of.line; among = later; from = of.from; transition_is = of.transition_is })
      ]
        where
          here : ((q ≡ line.state) × (branch_at (with_line sizes rows line) q ≡ with_transitions (branch_at rows q) (transitions_of_line sizes line))) ⊎ ((q ≢ line.state) × (branch_at (with_line sizes rows line) q ≡ branch_at rows q)) → of.line ≡ line → Contains (branch_at (with_line sizes rows line) q).transitions e ⊎ IsTransitionOf sizes lines q e
          here (inl (is, row)) same = inl (subst (λ (b : Branch). Contains b.transitions e) (sym row) (Contains-append_right (branch_at rows q).transitions (transitions_of_line sizes line) e (subst (λ (l : ListedLine). Contains (transitions_of_line sizes l) e) same of.transition_is)))
          here (inr (apart, row)) same = absurd (apart (sym of.from ∙ ap (λ (l : ListedLine). l.state) same))

-- a transition of a line is by the letter of a tuple that it takes, to a target
transition_from : (sizes : List ℕ) (line : ListedLine) (e : Transition) → Contains (transitions_of_line sizes line) e → Contains (letters_taken sizes line.digits) e.letter × Contains line.targets e.target
transition_from sizes line e there =
    let (target, at, inside) = Contains-from_flat_map (λ t. map (transition_to t) (letters_taken sizes line.digits)) line.targets e there in
    let (letter, among, is) = Contains-from_map (transition_to target) (letters_taken sizes line.digits) e inside in
    (subst (Contains (letters_taken sizes line.digits)) (ap (λ (x : Transition). x.letter) is) among, subst (Contains line.targets) (ap (λ (x : Transition). x.target) is) at)

transition_of : (sizes : List ℕ) (line : ListedLine) (letter target : ℕ) → Contains (letters_taken sizes line.digits) letter → Contains line.targets target → Contains (transitions_of_line sizes line) (transition_to target letter)
transition_of sizes line letter target among at =
    Contains-flat_map (λ t. map (transition_to t) (letters_taken sizes line.digits)) line.targets target (transition_to target letter) at (Contains-map (transition_to target) (letters_taken sizes line.digits) letter among)

-- a bare row has no transition, and accepts as listed
bare_transitions : (outputs : List (Option ℤ)) (q : ℕ) → (branch_at (map bare_row outputs) q).transitions ≡ []
bare_transitions [] q = refl
bare_transitions (o ∷ outputs) zero = refl
bare_transitions (o ∷ outputs) (suc q) = bare_transitions outputs q

bare_accepting : (outputs : List (Option ℤ)) (q : ℕ) → (branch_at (map bare_row outputs) q).accepting ≡ is_accepting_output (get_or outputs q None)
bare_accepting [] q = refl
bare_accepting (o ∷ outputs) zero = refl
bare_accepting (o ∷ outputs) (suc q) = bare_accepting outputs q

not_zero : (z : ℤ) → (not (int_eq z (pos 0)) ≡ true) ↔ (z ≢ pos 0)
not_zero z = (
  (λ h e. let is : int_eq z (pos 0) ≡ true = (Decides-int_eq z (pos 0)).1 e in true≢false (sym h ∙ ap not is)),
  (λ h. by (int_eq z (pos 0)) refl h),
)
  where
    by : (b : Bool) → int_eq z (pos 0) ≡ b → z ≢ pos 0 → not b ≡ true
    by true e h = absurd (h ((Decides-int_eq z (pos 0)).0 e))
    by false e h = refl

accepts_if_not_zero : (o : Option ℤ) → (is_accepting_output o ≡ true) ↔ ((output : ℤ) × (o ≡ Some output) × (output ≢ pos 0))
accepts_if_not_zero None = ((λ h. absurd (true≢false (sym h))), λ h. let e : None ≡ Some h.0 = h.1 in absurd (cc))
accepts_if_not_zero (Some z) = (
  (λ h. (z, refl, (not_zero z).0 h)),
  (λ h. let same : z ≡ h.0 = let e : Some z ≡ Some h.0 = h.1 in cc in (not_zero z).1 (subst (λ (y : ℤ). y ≢ pos 0) (sym same) h.2)),
)

-- the rows of the listed states
module _ (sizes : List ℕ) (listed : Listed) (rows : List Branch) (are : AreRowsOf sizes listed rows) where
  inside : All (λ line. line.state < length (map bare_row listed.outputs)) listed.lines
  inside k d lt = let line = are.lines k d lt in omega (arith, line.state, length-map listed.outputs bare_row)

  pub rows-size : length rows ≡ length listed.outputs
  rows-size = are.ordered.size ∙ length-rows_after sizes (map bare_row listed.outputs) listed.lines ∙ length-map listed.outputs bare_row

  rows-accepting : (q : ℕ) → (branch_at rows q).accepting ≡ is_accepting_output (output_of listed q)
  rows-accepting q = (are.ordered.same q).accepting ∙ accepting_after sizes (map bare_row listed.outputs) listed.lines q inside ∙ bare_accepting listed.outputs q

  transition_listed : (q : ℕ) (e : Transition) → Contains (branch_at rows q).transitions e → IsTransitionOf sizes listed.lines q e
  transition_listed q e there = elim (transition_in sizes (map bare_row listed.outputs) listed.lines q e inside (((are.ordered.same q).transitions e).0 there)) [
    | inl none ↦ absurd (Contains-none e (subst (λ (es : List Transition). Contains es e) (bare_transitions listed.outputs q) none))
    | inr of ↦ of
  ]

  listed_transition : (q : ℕ) (e : Transition) → IsTransitionOf sizes listed.lines q e → Contains (branch_at rows q).transitions e
  listed_transition q e of = ((are.ordered.same q).transitions e).1 (transition_stays sizes (map bare_row listed.outputs) listed.lines q e inside (inr of))

  pub transition_moves : (p letter q : ℕ) → Contains (branch_at rows p).transitions (transition_to q letter) → (tuple : List ℕ) × Moves sizes listed p tuple q × (letter ≡ code_of sizes tuple)
  transition_moves p letter q there =
      let of = transition_listed p (transition_to q letter) there in
      let ends = transition_from sizes of.line (transition_to q letter) of.transition_is in
      let (tuple, takes, code) = tuple_of_letter sizes of.line.digits letter ends.0 in
      (tuple, (of.line, of.among, of.from, takes, ends.1), code)

  pub moves_transition : (p letter q : ℕ) (tuple : List ℕ) → Moves sizes listed p tuple q → letter ≡ code_of sizes tuple → Contains (branch_at rows p).transitions (transition_to q letter)
  moves_transition p letter q tuple (line, among, from, takes, to) code =
      listed_transition p (transition_to q letter) (record {
        line = line;
        among = among;
        from = from;
        transition_is = transition_of sizes line letter q (subst (Contains (letters_taken sizes line.digits)) (sym code) (letter_of_tuple sizes line.digits tuple takes)) to;
      })

  pub IsBranching-rows : IsBranching sizes listed (record { sizes = sizes; states = rows })
  IsBranching-rows = record {
    sizes_are = refl;
    states = rows-size;
    accepting = λ q. ((λ yes. (accepts_if_not_zero (output_of listed q)).0 (sym (rows-accepting q) ∙ yes)), (λ h. rows-accepting q ∙ (accepts_if_not_zero (output_of listed q)).1 h));
    leads = λ p letter q. (transition_moves p letter q, λ h. moves_transition p letter q h.0 h.1 h.2);
  }

  pub IsBranchTable-rows : 0 < length listed.outputs → IsBranchTable (product sizes) rows
  IsBranchTable-rows some = record {
    initial = omega (arith, rows-size);
    small = omega (arith, rows-size, are.small);
    rows = All-from_get_or (λ (b : Branch). IsRow (product sizes) (length rows) b.transitions) rows no_branch row;
  }
    where
      row : (q : ℕ) → q < length rows → IsRow (product sizes) (length rows) (branch_at rows q).transitions
      row q within = record {
        in_range = λ k d lt.
            let e = get_or (branch_at rows q).transitions k d in
            let of = transition_listed q e (All-contains_itself (branch_at rows q).transitions k d lt) in
            let ends = transition_from sizes of.line e of.transition_is in
            let line = All-contains (IsListedLine (length sizes) (length listed.outputs)) listed.lines of.line are.lines of.among in
            let target = All-contains (λ t. t < length listed.outputs) of.line.targets e.target line.targets ends.1 in
            (letter_below sizes of.line.digits e.letter ends.0, omega (arith, target, rows-size));
        ascending = are.ordered.ascending q within;
      }
