-- What an automaton lists accepts the words of the automaton, under any header.
use Rattle.std.proofs.Common.{◌≡◌, ◌≢◌, ◌⊎◌, inl, inr, ◌↔◌, ℕ, zero, suc, ◌+◌, ◌<◌, ◌≤◌, Bool, true, false, List, [], ◌∷◌, map, ℤ, pos, Option, None, Some, refl, sym, ap, ◌∙◌, subst, arith, IsTrue}
use Rattle.std.specs.List.{AllZip, Contains, flat_map, range_with_len}
use Rattle.std.specs.Option.{IfSome, option_and_then, option_map_or}
use Rattle.std.proofs.lemmas.Bool.{cases_order, cases_lt}
use Rattle.std.proofs.lemmas.List.{get_or_past}
use Rattle.std.proofs.lemmas.List.Elements.{Contains-append_left, Contains-append_right, Contains-append_cases}
use Rattle.std.proofs.lemmas.Option.{none-some, same_Some}
use Rattle.std.proofs.lemmas.List.FromFn.{length-map-range_with_len, get_or-map-range_with_len}
use Rattle.digit_tuple.specs.Deterministic.{Automaton, IsTable, letters_of, states_of, transitions_of, accepting_of, step_of, run_of, accepts_from, accepts_of}
use Rattle.digit_tuple.specs.Letters.{code_of, AreDigits}
use Rattle.digit_tuple.specs.declared.header.Header.{Header}
use Rattle.digit_tuple.proofs.DfaLemmas.{row_at, target_by-in_range}
use Rattle.digit_tuple.proofs.LetterLemmas.{code_of-below, code_of-injective}
use Rattle.digit_tuple.proofs.MemberLemmas.{Contains-head}
use Rattle.dfa_reading.specs.Branching.{IsLetterOfDigits}
use Rattle.dfa_reading.specs.Listed.{ListedLine, Takes, Moves, MovesAlong, IsAccepting, ListedAccepts, output_of}
use Rattle.dfa_text.specs.Lists.{digits_of_letter, output_listed, step_listed, steps_listed, word_listed, automaton_listed}
use Rattle.dfa_text.proofs.ListedParts.{contains_none, contains_only}
use Rattle.dfa_text.proofs.PrintedRelations.{letter_digits}

-- what lists over numbers contain
among_numbers : {X : Type 0} (f : ℕ → List X) (a n : ℕ) (x : X) → Contains (flat_map f (range_with_len a n)) x → (i : ℕ) × (a ≤ i) × (i < a + n) × Contains (f i) x
among_numbers f a zero x h = absurd (contains_none x h)
among_numbers f a (suc n) x h =
    elim (Contains-append_cases (f a) (flat_map f (range_with_len (a + 1) n)) x h) [
      | inl here ↦ (a, omega arith, omega arith, here)
      | inr there ↦ let more = among_numbers f (a + 1) n x there in (more.0, omega (arith, more.1), omega (arith, more.2), more.3)
    ]

contains_number : {X : Type 0} (f : ℕ → List X) (a n i : ℕ) (x : X) → a ≤ i → i < a + n → Contains (f i) x → Contains (flat_map f (range_with_len a n)) x
contains_number f a zero i x low high h = absurd (omega arith)
contains_number f a (suc n) i x low high h =
    elim (cases_order a i) [
      | inl same ↦ Contains-append_left (f a) (flat_map f (range_with_len (a + 1) n)) x (subst (λ (k : ℕ). Contains (f k) x) (sym same) h)
      | inr (inl less) ↦ Contains-append_right (f a) (flat_map f (range_with_len (a + 1) n)) x (contains_number f (a + 1) n i x (omega arith) (omega arith) h)
      | inr (inr more) ↦ absurd (omega arith)
    ]

option_cases : (o : Option ℕ) → (o ≡ None) ⊎ ((t : ℕ) × (o ≡ Some t))
option_cases None = inl refl
option_cases (Some t) = inr (t, refl)

-- the line of a step
abbrev line_of : ℕ → List ℕ → ℕ → ListedLine
line_of q digits t = record { state = q; digits = map Some digits; targets = t ∷ [] }

line_of_step : (q : ℕ) (digits : List ℕ) (o : Option ℕ) (line : ListedLine) → Contains (step_listed q digits o) line → (t : ℕ) × (o ≡ Some t) × (line ≡ line_of q digits t)
line_of_step q digits None line h = absurd (contains_none line h)
line_of_step q digits (Some t) line h = (t, refl, sym (contains_only (line_of q digits t) line h))

-- a line without `*` takes its own digits alone
takes_itself : (sizes digits : List ℕ) → AreDigits sizes digits → Takes sizes (map Some digits) digits
takes_itself [] [] h = tt
takes_itself [] (d ∷ digits) h = absurd h
takes_itself (s ∷ sizes) [] h = absurd h
takes_itself (s ∷ sizes) (d ∷ digits) h = (h.0, (refl, takes_itself sizes digits h.1))

takes_only : (sizes digits other : List ℕ) → Takes sizes (map Some digits) other → other ≡ digits
takes_only [] [] [] h = refl
takes_only [] [] (e ∷ other) h = absurd h
takes_only [] (d ∷ digits) other h = absurd h
takes_only (s ∷ sizes) [] other h = absurd h
takes_only (s ∷ sizes) (d ∷ digits) [] h = absurd h
takes_only (s ∷ sizes) (d ∷ digits) (e ∷ other) h = ap (λ x. x ∷ other) h.1.0 ∙ ap (λ t. d ∷ t) (takes_only sizes digits other h.1.1)

-- outputs
abbrev Accepts : Option ℤ → Type 0
Accepts o = (output : ℤ) × (o ≡ Some output) × (output ≢ pos 0)

output_accepts : (b : Bool) → Accepts (output_listed b) ↔ (b ≡ true)
output_accepts true = ((λ h. refl), (λ h. (pos 1, refl, λ e. let one : pos 1 ≡ pos 0 = e in cc)))
output_accepts false = ((λ h. absurd (h.2 (sym (same_Some (pos 0) h.0 h.1)))), (λ h. absurd (let bad : false ≡ true = h in cc)))

module _ (header : Header) (d : Automaton) (table : IsTable (letters_of d) d.states) where
  step_from_move : (p : ℕ) (tuple : List ℕ) (q : ℕ) → Moves d.sizes (automaton_listed header d) p tuple q → step_of d p (code_of d.sizes tuple) ≡ Some q
  step_from_move p tuple q (line, among, from, takes, to) =
      let state = among_numbers (steps_listed d) 0 (states_of d) line among in
      let letter = among_numbers (λ a. step_listed state.0 (digits_of_letter d.sizes a) (step_of d state.0 a)) 0 (letters_of d) line state.3 in
      let digits = digits_of_letter d.sizes letter.0 in
      let found = line_of_step state.0 digits (step_of d state.0 letter.0) line letter.3 in
      let at : state.0 ≡ p = sym (ap (λ (x : ListedLine). x.state) found.2) ∙ from in
      let itself : tuple ≡ digits = takes_only d.sizes digits tuple (subst (λ (x : ListedLine). Takes d.sizes x.digits tuple) found.2 takes) in
      let target : found.0 ≡ q = contains_only found.0 q (subst (λ (x : ListedLine). Contains x.targets q) found.2 to) in
      let code : code_of d.sizes tuple ≡ letter.0 = ap (code_of d.sizes) itself ∙ (letter_digits d.sizes letter.0 (omega (arith, letter.2))).1 in
      ap (step_of d p) code ∙ ap (λ k. step_of d k letter.0) (sym at) ∙ found.1 ∙ ap Some target

  move_from_step : (p : ℕ) (tuple : List ℕ) (q : ℕ) → p < states_of d → AreDigits d.sizes tuple → step_of d p (code_of d.sizes tuple) ≡ Some q → Moves d.sizes (automaton_listed header d) p tuple q
  move_from_step p tuple q within fit is =
      let letter = code_of d.sizes tuple in
      let low : letter < letters_of d = code_of-below d.sizes tuple fit in
      let digits = digits_of_letter d.sizes letter in
      let coded = letter_digits d.sizes letter low in
      let same : digits ≡ tuple = code_of-injective d.sizes digits tuple coded.0 fit coded.1 in
      let line : ListedLine = line_of p digits q in
      let here : Contains (step_listed p digits (step_of d p letter)) line = subst (λ (o : Option ℕ). Contains (step_listed p digits o) line) (sym is) (Contains-head line []) in
      let row : Contains (steps_listed d p) line = contains_number (λ a. step_listed p (digits_of_letter d.sizes a) (step_of d p a)) 0 (letters_of d) letter line (omega arith) (omega arith) here in
      let among : Contains (flat_map (steps_listed d) (range_with_len 0 (states_of d))) line = contains_number (steps_listed d) 0 (states_of d) p line (omega arith) (omega arith) row in
      (line, among, refl, subst (λ (t : List ℕ). Takes d.sizes (map Some digits) t) same (takes_itself d.sizes digits coded.0), Contains-head q [])

  output_is : (q : ℕ) → q < states_of d → output_of (automaton_listed header d) q ≡ output_listed (accepting_of d q)
  output_is q within = get_or-map-range_with_len (λ p. output_listed (accepting_of d p)) 0 (states_of d) q q None within (omega arith)

  accepting_listed : (q : ℕ) → IsAccepting (automaton_listed header d) q → accepting_of d q ≡ true
  accepting_listed q h = elim (cases_lt q (states_of d)) [
    | inl within ↦ (output_accepts (accepting_of d q)).0 (subst Accepts (output_is q within) h)
    | inr past ↦ absurd (none-some h.0 (sym (get_or_past (map (λ p. output_listed (accepting_of d p)) (range_with_len 0 (states_of d))) q None (omega (arith, length-map-range_with_len (λ p. output_listed (accepting_of d p)) 0 (states_of d)))) ∙ h.1))
  ]

  accepted_from_moves : (word : List (List ℕ)) (letters : List ℕ) (p q : ℕ) → AllZip (IsLetterOfDigits d.sizes) word letters → MovesAlong d.sizes (automaton_listed header d) p word q → IsAccepting (automaton_listed header d) q
      → accepts_from d p letters ≡ true
  accepted_from_moves [] [] p q codes h accepts = subst (λ (k : ℕ). accepting_of d k ≡ true) (sym h) (accepting_listed q accepts)
  accepted_from_moves [] (a ∷ letters) p q codes h accepts = absurd codes
  accepted_from_moves (tuple ∷ word) [] p q codes h accepts = absurd codes
  accepted_from_moves (tuple ∷ word) (a ∷ letters) p q codes (r, move, more) accepts =
      ap (λ (o : Option ℕ). option_map_or (λ k. accepts_from d k letters) o false) (ap (step_of d p) codes.0.letter_is ∙ step_from_move p tuple r move) ∙ accepted_from_moves word letters r q codes.1 more accepts

  moves_from_accepted : (word : List (List ℕ)) (letters : List ℕ) (p : ℕ) → p < states_of d → AllZip (IsLetterOfDigits d.sizes) word letters → accepts_from d p letters ≡ true
      → (q : ℕ) × MovesAlong d.sizes (automaton_listed header d) p word q × IsAccepting (automaton_listed header d) q
  moves_from_accepted [] [] p within codes h = (p, refl, subst Accepts (sym (output_is p within)) ((output_accepts (accepting_of d p)).1 h))
  moves_from_accepted [] (a ∷ letters) p within codes h = absurd codes
  moves_from_accepted (tuple ∷ word) [] p within codes h = absurd codes
  moves_from_accepted (tuple ∷ word) (a ∷ letters) p within codes h =
      elim (option_cases (step_of d p a)) [
        | inl none ↦ absurd (let bad : false ≡ true = sym (ap (λ (o : Option ℕ). option_map_or (λ k. accepts_from d k letters) o false) none) ∙ h in cc)
        | inr (r, is) ↦
            let inside : r < states_of d = subst (λ (o : Option ℕ). IfSome o (λ t. t < states_of d)) is (target_by-in_range (letters_of d) (states_of d) (transitions_of d p) a (row_at d p table within).in_range) in
            let rest = moves_from_accepted word letters r inside codes.1 (sym (ap (λ (o : Option ℕ). option_map_or (λ k. accepts_from d k letters) o false) is) ∙ h) in
            (rest.0, (r, move_from_step p tuple r within codes.0.fit (sym (ap (step_of d p) codes.0.letter_is) ∙ is), rest.1), rest.2)
      ]

  -- it accepts a word of tuples if and only if the automaton accepts the word of their letters
  pub accepts_listed : (word : List (List ℕ)) (letters : List ℕ) → AllZip (IsLetterOfDigits d.sizes) word letters → ListedAccepts d.sizes (automaton_listed header d) word ↔ IsTrue (accepts_of d letters)
  accepts_listed word letters codes = (
    (λ h. accepted_from_moves word letters 0 h.0 codes h.1 h.2),
    (λ h. moves_from_accepted word letters 0 table.initial codes h),
  )

  -- whatever the outputs are, a listed path leads where the word of letters leads
  run_from_moves : (outputs : List (Option ℤ)) (word : List (List ℕ)) (letters : List ℕ) (p q : ℕ) → AllZip (IsLetterOfDigits d.sizes) word letters → MovesAlong d.sizes (word_listed header d outputs) p word q → run_of d p letters ≡ Some q
  run_from_moves outputs [] [] p q codes h = ap Some h
  run_from_moves outputs [] (a ∷ letters) p q codes h = absurd codes
  run_from_moves outputs (tuple ∷ word) [] p q codes h = absurd codes
  run_from_moves outputs (tuple ∷ word) (a ∷ letters) p q codes (r, move, more) =
      ap (λ (o : Option ℕ). option_and_then (λ k. run_of d k letters) o) (ap (step_of d p) codes.0.letter_is ∙ step_from_move p tuple r move) ∙ run_from_moves outputs word letters r q codes.1 more

  moves_from_run : (outputs : List (Option ℤ)) (word : List (List ℕ)) (letters : List ℕ) (p q : ℕ) → p < states_of d → AllZip (IsLetterOfDigits d.sizes) word letters → run_of d p letters ≡ Some q → MovesAlong d.sizes (word_listed header d outputs) p word q
  moves_from_run outputs [] [] p q within codes h = same_Some p q h
  moves_from_run outputs [] (a ∷ letters) p q within codes h = absurd codes
  moves_from_run outputs (tuple ∷ word) [] p q within codes h = absurd codes
  moves_from_run outputs (tuple ∷ word) (a ∷ letters) p q within codes h =
      elim (option_cases (step_of d p a)) [
        | inl none ↦ absurd (none-some q (sym (ap (λ (o : Option ℕ). option_and_then (λ k. run_of d k letters) o) none) ∙ h))
        | inr (r, is) ↦
            let inside : r < states_of d = subst (λ (o : Option ℕ). IfSome o (λ t. t < states_of d)) is (target_by-in_range (letters_of d) (states_of d) (transitions_of d p) a (row_at d p table within).in_range) in
            let rest = moves_from_run outputs word letters r q inside codes.1 (sym (ap (λ (o : Option ℕ). option_and_then (λ k. run_of d k letters) o) is) ∙ h) in
            (r, move_from_step p tuple r within codes.0.fit (sym (ap (step_of d p) codes.0.letter_is) ∙ is), rest)
      ]

  pub runs_listed : (outputs : List (Option ℤ)) (word : List (List ℕ)) (letters : List ℕ) (q : ℕ) → AllZip (IsLetterOfDigits d.sizes) word letters → MovesAlong d.sizes (word_listed header d outputs) 0 word q ↔ (run_of d 0 letters ≡ Some q)
  runs_listed outputs word letters q codes = (run_from_moves outputs word letters 0 q codes, moves_from_run outputs word letters 0 q table.initial codes)
