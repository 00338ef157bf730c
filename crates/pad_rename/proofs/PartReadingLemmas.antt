-- States that read parts of letters, and the words that their automaton accepts.
use Rattle.std.proofs.Common.{◌≡◌, ℕ, ◌+◌, ◌<◌, ◌≤◌, ◌⊎◌, inl, inr, false, List, [], ◌∷◌, ◌++◌, length, map, get_or, Option, None, Some, IfSome, refl, sym, ap, ◌∙◌, subst, arith}
use Rattle.std.specs.List.{All, Contains}
use Rattle.std.specs.Option.{option_map_or}
use Rattle.std.proofs.lemmas.Bool.{cases_lt}
use Rattle.std.proofs.lemmas.List.{map-append, length_push, get_or_append_left, get_or_push}
use Rattle.std.proofs.lemmas.List.FromFn.{length-map-range_with_len}
use Rattle.std.proofs.lemmas.List.Elements.{All-contains, All-contains_itself, All-weaker}
use Rattle.digit_tuple.specs.declared.transitions.Transition.{Transition}
use Rattle.digit_tuple.specs.Deterministic.{Automaton, State, IsTable, step_of, transitions_of, states_of, letters_of, accepts_from, accepts_of, no_state}
use Rattle.digit_tuple.specs.DfaRows.{state_in, states_in}
use Rattle.digit_tuple.specs.declared.dfa.DfaState.{DfaState}
use Rattle.digit_tuple.specs.Letters.{product, IsWord}
use Rattle.digit_tuple.specs.Parts.{letter_part, part, parts_of_letters}
use Rattle.digit_tuple.proofs.PartLemmas.{get_or-parts}
use Rattle.digit_tuple.proofs.DfaLemmas.{row_at, target_by-in_range}
use Rattle.digit_tuple.proofs.ReversedLemmas.{target_by-contains}
use Rattle.pad_rename.specs.PartReading.{AreTransitionsByParts, AreReading, IsReading}

-- a transition of a row in order leads where its letter does, and so to a state
within_states : (parts : List ℕ) (row transitions : List Transition) (letters states : ℕ) → All (λ (x : Transition). (x.letter < letters) × (x.target < states)) row → AreTransitionsByParts parts row transitions → All (λ (x : Transition). (x.letter < length parts) × (x.target < states)) transitions
within_states parts row transitions letters states range are =
    All-weaker (Contains transitions) (λ (x : Transition). (x.letter < length parts) × (x.target < states)) (λ e there. let small = All-contains (λ (x : Transition). x.letter < length parts) transitions e are.in_range there in (
      small,
      subst (λ o. IfSome o (λ q. q < states)) (sym (are.lead e.letter small) ∙ target_by-contains transitions e.letter e.target are.ascending there) (target_by-in_range letters states row (get_or parts e.letter 0) range),
    )) transitions (All-contains_itself transitions)

-- one more state
pub AreReading-push : (d : Automaton) (parts : List ℕ) (count : ℕ) (rows all : List DfaState) (row : DfaState) → all ≡ rows ++ row ∷ []
    → AreReading d parts count (states_in rows) → IsReading d count parts (state_in row) → AreReading d parts (count + 1) (states_in all)
AreReading-push d parts count rows all row pushed reading last = record {
  count_is = ap length states ∙ length_push (states_in rows) (state_in row) ∙ ap (λ n. n + 1) reading.count_is;
  are = λ q z small. subst (IsReading d q parts) (sym (ap (λ ss. get_or ss q z) states)) (by q z small (cases_lt q count));
}
  where
    states : states_in all ≡ states_in rows ++ state_in row ∷ []
    states = ap states_in pushed ∙ map-append state_in rows (row ∷ [])

    by : (q : ℕ) (z : State) → q < count + 1 → (q < count) ⊎ (count ≤ q) → IsReading d q parts (get_or (states_in rows ++ state_in row ∷ []) q z)
    by q z small (inl less) = subst (IsReading d q parts) (sym (get_or_append_left (states_in rows) (state_in row ∷ []) z q (omega (arith, less, reading.count_is)))) (reading.are q z less)
    by q z small (inr more) =
        let here : count ≡ q = omega arith in
        subst (IsReading d q parts) (sym (get_or_push (states_in rows) (state_in row) z q (reading.count_is ∙ here))) (subst (λ n. IsReading d n parts (state_in row)) here last)

-- the parts of letters, read one by one
read_parts-is : (sizes places w : List ℕ) → IsWord (product sizes) w → map (λ a. get_or (parts_of_letters sizes places) a 0) w ≡ part sizes places w
read_parts-is sizes places [] over = refl
read_parts-is sizes places (a ∷ w) over =
    ap (λ n. n ∷ map (λ b. get_or (parts_of_letters sizes places) b 0) w) (get_or-parts sizes places a 0 over.0)
    ∙ ap (λ ns. letter_part sizes places a ∷ ns) (read_parts-is sizes places w over.1)

-- an automaton whose states read the parts of letters
module _ (d e : Automaton) (sizes places : List ℕ) (table : IsTable (letters_of d) d.states)
    (reading : AreReading d (parts_of_letters sizes places) (states_of d) e.states) where
  abbrev parts : List ℕ
  parts = parts_of_letters sizes places

  length-parts : length parts ≡ product sizes
  length-parts = length-map-range_with_len (letter_part sizes places) 0 (product sizes)

  -- the states are those of a table
  pub IsTable-reading : IsTable (product sizes) e.states
  IsTable-reading = record {
    initial = omega (arith, table.initial, reading.count_is);
    part = record {
      small = omega (arith, table.part.small, reading.count_is);
      rows = λ q z within.
          let state = reading.are q z (omega (arith, within, reading.count_is)) in
          let range = within_states parts (transitions_of d q) (get_or e.states q z).transitions (letters_of d) (states_of d) (row_at d q table (omega (arith, within, reading.count_is))).in_range state.transitions_are in
          record {
            in_range = subst (λ m. All (λ (x : Transition). (x.letter < m) × (x.target < states_of e)) (get_or e.states q z).transitions) length-parts
                (subst (λ n. All (λ (x : Transition). (x.letter < length parts) × (x.target < n)) (get_or e.states q z).transitions) (sym reading.count_is) range);
            ascending = state.transitions_are.ascending;
          };
    };
  }

  -- a letter leads where its part leads
  step : (q a : ℕ) → q < states_of d → a < product sizes → step_of e q a ≡ step_of d q (get_or parts a 0)
  step q a within small = (reading.are q no_state within).transitions_are.lead a (omega (arith, small, length-parts))

  -- and a word is accepted where its part is
  accepted : (w : List ℕ) (q : ℕ) → q < states_of d → IsWord (product sizes) w → accepts_from e q w ≡ accepts_from d q (map (λ a. get_or parts a 0) w)
  accepted [] q within over = (reading.are q no_state within).accepting_is
  accepted (a ∷ w) q within over =
      ap (λ o. option_map_or (λ p. accepts_from e p w) o false) (step q a within over.0)
      ∙ by (step_of d q (get_or parts a 0)) (target_by-in_range (letters_of d) (states_of d) (transitions_of d q) (get_or parts a 0) (row_at d q table within).in_range) (λ p inside. accepted w p inside over.1)
    where
      by : (o : Option ℕ) → IfSome o (λ p. p < states_of d) → ((p : ℕ) → p < states_of d → accepts_from e p w ≡ accepts_from d p (map (λ a. get_or parts a 0) w))
          → option_map_or (λ p. accepts_from e p w) o false ≡ option_map_or (λ p. accepts_from d p (map (λ a. get_or parts a 0) w)) o false
      by None inside rest = refl
      by (Some p) inside rest = rest p inside

  pub accepts-reading : (w : List ℕ) → IsWord (product sizes) w → accepts_of e w ≡ accepts_of d (part sizes places w)
  accepts-reading w over = accepted w 0 table.initial over ∙ ap (accepts_of d) (read_parts-is sizes places w over)
