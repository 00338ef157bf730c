-- The states that are made of the next places of an expression are the table of its letters.
use Rattle.std.proofs.Common.{◌≡◌, ℕ, zero, suc, ◌+◌, ◌<◌, ◌≤◌, ◌^◌, false, ℤ, List, [], ◌∷◌, ◌++◌, length, inl, inr, sym, ap, ◌∙◌, subst, arith, get_or, append_assoc}
use Rattle.std.specs.Prelude.{Contains, IsTrue}
use Rattle.std.specs.List.{AllZip}
use Rattle.std.proofs.lemmas.Bool.{cases_lt, false≢true}
use Rattle.std.proofs.lemmas.List.{length-map, get_or-map, get_or_past}
use Rattle.std.proofs.lemmas.List.Elements.{Contains-get_or, All-map}
use Rattle.digit_tuple.specs.declared.transitions.Transition.{Transition}
use Rattle.digit_tuple.specs.declared.transitions.NfaState.{NfaState}
use Rattle.digit_tuple.specs.Automaton.{Branching, Branch, no_branch, branch_of, accepting_of, Leads, IsRow, IsBranchTable}
use Rattle.digit_tuple.specs.Letters.{product}
use Rattle.digit_tuple.specs.Rows.{branch_in, branches_in}
use Rattle.digit_tuple.specs.Sets.{sizes_of}
use Rattle.digit_tuple.specs.Tuples.{IsLetterOf}
use Rattle.regex_build.specs.declared.codes.LetterRange.{LetterRange}
use Rattle.regex_build.specs.declared.next_places.NextPlaces.{NextPlaces}
use Rattle.regex_build.specs.Expression.{Expression, occurrences_in, placed}
use Rattle.regex_build.specs.Matches.{Matches}
use Rattle.regex_build.specs.Positions.{ComesNext, MayEnd, IsWritten, IsPositionTable}
use Rattle.regex_build.specs.Codes.{IsRangeOf}
use Rattle.regex_build.specs.Fragments.{rows_in, Follows}
use Rattle.regex_build.specs.NextPlaces.{AreNextPlaces}
use Rattle.regex_build.specs.Rows.{IsStateAt, AreStates}
use Rattle.regex_build.proofs.ListSteps.{contains_none}
use Rattle.regex_build.proofs.PlaceWords.{IsWithin, place_within}
use Rattle.regex_build.proofs.LinkSteps.{length-rows_in}
use Rattle.regex_build.proofs.RangeSteps.{letter_at, written_below}

abbrev pub transition : ℕ → ℕ → Transition
transition a place = record { letter = a; target = place }

-- what comes next is a place of the expression
pub next_place_within : {L : Type 0} (e : Expression L) (q place : ℕ) → ComesNext (placed 1 e) q place → IsWithin 1 (1 + length (occurrences_in e)) place
next_place_within e zero place h = place_within 1 e [] place h.0 h.1
next_place_within e (suc q) place h =
    let P : List ℕ → Type 0 = λ w. Matches (placed 1 e) w in
    place_within 1 e (h.0 ++ suc q ∷ []) place h.1 (subst P (sym (append_assoc h.0 (suc q ∷ []) (place ∷ h.1))) h.2)

-- the places that are listed have ranges
pub places_have_ranges : (e : Expression (List ℤ)) (places : NextPlaces) (ranges : ℕ) → AreNextPlaces e places → ranges ≡ length (occurrences_in e) → (q place : ℕ) → Follows (rows_in places.next.items) q place → (0 < place) × (place ≤ ranges)
places_have_ranges e places ranges are l q place h =
    let w : IsWithin 1 (1 + length (occurrences_in e)) place = next_place_within e q place ((are.next q place).0 h) in
    (omega arith, omega arith)

module _ (sets : List (List ℤ)) (e : Expression (List ℤ)) (places : NextPlaces) (ranges : List LetterRange) (sizes : List ℕ) (states : List NfaState) (other : NfaState) (made : AreNextPlaces e places)
    (zip : AllZip (IsRangeOf sets) (occurrences_in e) ranges) (count : length states ≡ length places.next.items) (are : AreStates places ranges states) where
  table : Branching
  table = record { sizes = sizes; states = branches_in states }

  row_is : (q : ℕ) → q < length states → branch_of table q ≡ branch_in (get_or states q other)
  unfolding table
  row_is q l = get_or-map branch_in states q other no_branch l

  no_row : (q : ℕ) → length states ≤ q → branch_of table q ≡ no_branch
  unfolding table
  no_row q l = let m : length (branches_in states) ≡ length states = length-map states branch_in in get_or_past (branches_in states) q no_branch (omega arith)

  ends_from_accepts : (q : ℕ) → IsTrue (accepting_of table q) → MayEnd (placed 1 e) q
  ends_from_accepts q h = elim (cases_lt q (length states)) [
    | inl l ↦
        let P : Branch → Type 0 = λ b. IsTrue b.accepting in
        (made.ends q).0 (sym (are q other l).accepting ∙ subst P (row_is q l) h)
    | inr l ↦ let P : Branch → Type 0 = λ b. IsTrue b.accepting in let f : IsTrue false = subst P (no_row q l) h in absurd (false≢true f)
  ]

  accepts_from_ends : (q : ℕ) → MayEnd (placed 1 e) q → IsTrue (accepting_of table q)
  accepts_from_ends q h =
      let test : IsTrue (get_or places.ends.items q false) = (made.ends q).1 h in
      let n : length places.next.items ≡ length (occurrences_in e) + 1 = made.count in
      let m : length places.ends.items ≡ length (occurrences_in e) + 1 = made.ends_count in
      elim (cases_lt q (length states)) [
        | inl l ↦ let P : Branch → Type 0 = λ b. IsTrue b.accepting in subst P (sym (row_is q l)) ((are q other l).accepting ∙ test)
        | inr l ↦ absurd (false≢true (sym (get_or_past places.ends.items q false (omega arith)) ∙ test))
      ]

  comes_from_leads : (q a place : ℕ) → Leads table q a place → ComesNext (placed 1 e) q place × IsWritten (IsLetterOf sets) (occurrences_in e) place a
  comes_from_leads q a place h = elim (cases_lt q (length states)) [
    | inl l ↦
        let P : Branch → Type 0 = λ b. Contains b.transitions (transition a place) in
        let r = ((are q other l).transitions (transition a place)).0 (subst P (row_is q l) h) in
        ((made.next q place).0 r.0, (letter_at sets (occurrences_in e) ranges place a zip).0 r.1)
    | inr l ↦ let P : Branch → Type 0 = λ b. Contains b.transitions (transition a place) in absurd (contains_none (transition a place) (subst P (no_row q l) h))
  ]

  leads_from_comes : (q a place : ℕ) → ComesNext (placed 1 e) q place → IsWritten (IsLetterOf sets) (occurrences_in e) place a → Leads table q a place
  leads_from_comes q a place h k =
      let there : Follows (rows_in places.next.items) q place = (made.next q place).1 h in
      let n : length (rows_in places.next.items) ≡ length places.next.items = length-rows_in places.next.items in
      elim (cases_lt q (length states)) [
        | inl l ↦
            let P : Branch → Type 0 = λ b. Contains b.transitions (transition a place) in
            subst P (sym (row_is q l)) (((are q other l).transitions (transition a place)).1 (there, (letter_at sets (occurrences_in e) ranges place a zip).1 k))
        | inr l ↦ let P : List ℕ → Type 0 = λ xs. Contains xs place in absurd (contains_none place (subst P (get_or_past (rows_in places.next.items) q [] (omega arith)) there))
      ]

  position_table : IsPositionTable (IsLetterOf sets) e table
  unfolding table
  position_table = record {
    states = let m : length (branches_in states) ≡ length states = length-map states branch_in in let n : length places.next.items ≡ length (occurrences_in e) + 1 = made.count in omega arith;
    accepts = λ q. (ends_from_accepts q, accepts_from_ends q);
    leads = λ q a place. (comes_from_leads q a place, λ h. leads_from_comes q a place h.0 h.1);
  }

-- the table of the letters
pub made_table : (sets : List (List ℤ)) (e : Expression (List ℤ)) (places : NextPlaces) (ranges : List LetterRange) (sizes : List ℕ) (states : List NfaState) → AreNextPlaces e places → AllZip (IsRangeOf sets) (occurrences_in e) ranges
    → length states ≡ length places.next.items → AreStates places ranges states → IsPositionTable (IsLetterOf sets) e (record { sizes = sizes; states = branches_in states })
unfolding table
made_table sets e places ranges sizes [] made zip count are = let n : length places.next.items ≡ length (occurrences_in e) + 1 = made.count in absurd (omega arith)
made_table sets e places ranges sizes (state ∷ states) made zip count are = position_table sets e places ranges sizes (state ∷ states) state made zip count are

-- the transitions of a state are in range
row_in_range : (sets : List (List ℤ)) (e : Expression (List ℤ)) (places : NextPlaces) (ranges : List LetterRange) (q : ℕ) (state : NfaState) → AllZip (IsRangeOf sets) (occurrences_in e) ranges → IsStateAt places ranges q state
    → IsRow (product (sizes_of sets)) (length (occurrences_in e) + 1) state.transitions.items
row_in_range sets e places ranges q state zip is = record {
  in_range = λ k other l. each (get_or state.transitions.items k other) (Contains-get_or state.transitions.items k other l);
  ascending = is.ascending;
}
  where
    each : (x : Transition) → Contains state.transitions.items x → (x.letter < product (sizes_of sets)) × (x.target < length (occurrences_in e) + 1)
    each x h = let r = written_below sets (occurrences_in e) x.target x.letter ((letter_at sets (occurrences_in e) ranges x.target x.letter zip).0 ((is.transitions x).0 h).1) in (r.1, r.0)

-- the states are a table
pub made_rows : (sets : List (List ℤ)) (e : Expression (List ℤ)) (places : NextPlaces) (ranges : List LetterRange) (sizes : List ℕ) (states : List NfaState) → sizes ≡ sizes_of sets → AreNextPlaces e places → length places.next.items < 2 ^ 32
    → AllZip (IsRangeOf sets) (occurrences_in e) ranges → length states ≡ length places.next.items → AreStates places ranges states → IsBranchTable (product sizes) (branches_in states)
made_rows sets e places ranges sizes states same made small zip count are =
    let m : length (branches_in states) ≡ length states = length-map states branch_in in
    let n : length places.next.items ≡ length (occurrences_in e) + 1 = made.count in
    let P : ℕ → Type 0 = λ letters. IsBranchTable letters (branches_in states) in
    subst P (ap product (sym same)) (record {
      initial = omega arith;
      small = omega arith;
      rows = All-map (λ (state : Branch). IsRow (product (sizes_of sets)) (length (branches_in states)) state.transitions) branch_in states (λ k other l. each k other l);
    })
  where
    each : (k : ℕ) (other : NfaState) → k < length states → IsRow (product (sizes_of sets)) (length (branches_in states)) (get_or states k other).transitions.items
    each k other l =
        let m : length (branches_in states) ≡ length states = length-map states branch_in in
        let n : length places.next.items ≡ length (occurrences_in e) + 1 = made.count in
        let total : length (occurrences_in e) + 1 ≡ length (branches_in states) = omega arith in
        let P : ℕ → Type 0 = λ i. IsRow (product (sizes_of sets)) i (get_or states k other).transitions.items in
        subst P total (row_in_range sets e places ranges k (get_or states k other) zip (are k other l))
