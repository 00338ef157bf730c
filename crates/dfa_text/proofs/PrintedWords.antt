-- The text of an automaton with outputs over systems, read again as a word's file: it lists the automaton with these outputs.
use Rattle.std.proofs.Common.{◌≡◌, ℕ, ◌<◌, Bool, true, false, ◌&&◌, not, eqb, List, [], ◌∷◌, ◌++◌, map, ℤ, get_or, Option, None, Some, Ok, inl, inr, refl, sym, ap, ◌∙◌, subst, true≢false, ◌+◌, length, arith}
use Rattle.std.specs.Prelude.{FitsSigned, IfSome}
use Rattle.std.specs.List.{Contains, flat_map, range_with_len}
use Rattle.std.proofs.lemmas.Bool.{and_parts, eqb-true, eq-eqb}
use Rattle.std.proofs.lemmas.List.Elements.{All-contains, All-get_or, Contains-get_or}
use Rattle.std.proofs.lemmas.List.FromFn.{length-range_with_len, get_or-range_with_len}
use Rattle.std.specs.Int.{w32}
use Rattle.digit_tuple.specs.Deterministic.{Automaton, letters_of, states_of, step_of}
use Rattle.digit_tuple.specs.Letters.{product, code_of}
use Rattle.digit_tuple.specs.declared.header.Header.TheVariants.{Systems}
use Rattle.digit_tuple.proofs.MemberLemmas.{Contains-head, Contains-flat_map, Contains-cases, Contains-none, Contains-map, Contains-from_flat_map}
use Rattle.digit_tuple.proofs.RangeLemmas.{All-range}
use Rattle.dfa_reading.specs.Lines.{line_after}
use Rattle.dfa_reading.specs.Listed.{ListedLine, Listed}
use Rattle.dfa_reading.specs.Conflicts.{share_tuple, are_one, are_in_conflict, are_without_conflict}
use Rattle.dfa_reading.specs.declared.outputs.Outputs.TheVariants.{Letters}
use Rattle.dfa_reading.specs.Reading.{no_draft, then_read, add_lines_by, finish}
use Rattle.dfa_reading.specs.WordFiles.{add_word_line, word_of}
use Rattle.dfa_reading.proofs.WordLines.{without_conflict_from}
use Rattle.dfa_reading.proofs.WordSteps.{word_lines}
use Rattle.dfa_text.specs.RelationText.{word_text}
use Rattle.dfa_text.specs.Lists.{digits_of_letter, step_listed, steps_listed, word_listed, AreOutputs, TextListsWord, EqualTextsHaveEqualWords}
use Rattle.dfa_text.proofs.PrintedDrafts.{lines_in}
use Rattle.dfa_text.proofs.PrintedEntries.{IsOutput}
use Rattle.dfa_text.proofs.PrintedRelations.{letter_digits, printed_lines, ArePrinted, printed_under, drafted, finish_printed}

-- a listed line is of a state, by a letter, to a state
pub record IsStepLine (d : Automaton) (line : ListedLine) : Type 0 where
  pub letter : ℕ
  pub target : ℕ
  pub low : letter < letters_of d
  pub digits : line.digits ≡ map Some (digits_of_letter d.sizes letter)
  pub leads : step_of d line.state letter ≡ Some target
  pub targets : line.targets ≡ target ∷ []

step_line_is : (d : Automaton) (q letter : ℕ) (line : ListedLine) (o : Option ℕ) → letter < letters_of d → step_of d q letter ≡ o → Contains (step_listed q (digits_of_letter d.sizes letter) o) line → IsStepLine d line
step_line_is d q letter line None low h there = absurd (Contains-none line there)
step_line_is d q letter line (Some t) low h there =
    let one : ListedLine = record { state = q; digits = map Some (digits_of_letter d.sizes letter); targets = t ∷ [] } in
    elim (Contains-cases one [] line there) [
      | inl same ↦ subst (IsStepLine d) same (record { letter = letter; target = t; low = low; digits = refl; leads = h; targets = refl })
      | inr none ↦ absurd (Contains-none line none)
    ]

listed_line_is : (d : Automaton) (line : ListedLine) → Contains (flat_map (steps_listed d) (range_with_len 0 (states_of d))) line → IsStepLine d line
listed_line_is d line there =
    let (q, state, inside) = Contains-from_flat_map (steps_listed d) (range_with_len 0 (states_of d)) line there in
    let (letter, below, one) = Contains-from_flat_map (λ a. step_listed q (digits_of_letter d.sizes a) (step_of d q a)) (range_with_len 0 (letters_of d)) line inside in
    step_line_is d q letter line (step_of d q letter) (All-contains (λ a. a < letters_of d) (range_with_len 0 (letters_of d)) letter (All-range (letters_of d)) below) refl one

-- digits without `*` share a tuple only where they are the same
shared_same : (a b : List ℕ) → share_tuple (map Some a) (map Some b) ≡ true → a ≡ b
shared_same [] [] h = refl
shared_same [] (n ∷ b) h = absurd (cc)
shared_same (m ∷ a) [] h = absurd (cc)
shared_same (m ∷ a) (n ∷ b) h =
    let both = and_parts (eqb m n) (share_tuple (map Some a) (map Some b)) h in
    ap (λ k. k ∷ a) (eqb-true m n both.0) ∙ ap (λ c. n ∷ c) (shared_same a b both.1)

one_of_two : (t u : ℕ) → t ≡ u → are_one (t ∷ u ∷ []) ≡ true
one_of_two t u same = ap (λ b. b && true) (eq-eqb u t (sym same))

-- so no two listed lines are in conflict
apart : (d : Automaton) (line other : ListedLine) → IsStepLine d line → IsStepLine d other → are_in_conflict line other ≡ false
apart d line other one two = by (are_in_conflict line other) refl
  where
    by : (b : Bool) → are_in_conflict line other ≡ b → b ≡ false
    by false h = refl
    by true h =
        let parts = and_parts (eqb line.state other.state) (share_tuple line.digits other.digits && not (are_one (line.targets ++ other.targets))) h in
        let rest = and_parts (share_tuple line.digits other.digits) (not (are_one (line.targets ++ other.targets))) parts.1 in
        let share : share_tuple (map Some (digits_of_letter d.sizes one.letter)) (map Some (digits_of_letter d.sizes two.letter)) ≡ true = ap (λ ds. share_tuple ds (map Some (digits_of_letter d.sizes two.letter))) (sym one.digits) ∙ ap (share_tuple line.digits) (sym two.digits) ∙ rest.0 in
        let digits = shared_same (digits_of_letter d.sizes one.letter) (digits_of_letter d.sizes two.letter) share in
        let letter : one.letter ≡ two.letter = sym (letter_digits d.sizes one.letter one.low).1 ∙ ap (code_of d.sizes) digits ∙ (letter_digits d.sizes two.letter two.low).1 in
        let target : Some one.target ≡ Some two.target = sym one.leads ∙ ap (λ q. step_of d q one.letter) (eqb-true line.state other.state parts.0) ∙ ap (step_of d other.state) letter ∙ two.leads in
        let same : one.target ≡ two.target = cc in
        let is : are_one (line.targets ++ other.targets) ≡ true = ap (λ ts. are_one (ts ++ other.targets)) one.targets ∙ ap (λ ts. are_one (one.target ∷ ts)) two.targets ∙ one_of_two one.target two.target same in
        absurd (true≢false (sym rest.1 ∙ ap not is))

clear_lines : (d : Automaton) (numbered : List (ℕ × ListedLine)) → lines_in numbered ≡ flat_map (steps_listed d) (range_with_len 0 (states_of d)) → are_without_conflict numbered ≡ true
clear_lines d numbered lists =
    without_conflict_from numbered (λ l o there among. apart d l.1 o.1 (is l there) (is o among))
  where
    is : (l : ℕ × ListedLine) → Contains numbered l → IsStepLine d l.1
    is l there = listed_line_is d l.1 (subst (λ (ls : List ListedLine). Contains ls l.1) lists (Contains-map (λ (line : ℕ × ListedLine). line.1) numbered l there))

output_is : (output : Option ℤ) → IfSome output (FitsSigned w32) → IsOutput Letters output
output_is None fits = tt
output_is (Some z) fits = fits

outputs_are : (d : Automaton) (outputs : List (Option ℤ)) → AreOutputs d outputs → ArePrinted Letters d outputs
outputs_are d outputs are = record {
  count = are.count;
  fit = λ q within. output_is (get_or outputs q None) (All-get_or (λ output. IfSome output (FitsSigned w32)) outputs q None (subst (λ (n : ℕ). q < n) (sym are.count) within) are.fits);
}

pub text_lists_word : TextListsWord
unfolding word_of word_text
text_lists_word systems d outputs over are =
    let header = Systems systems in
    let printed = printed_under header d over in
    let outputs_printed = outputs_are d outputs are in
    let text = printed_lines header d outputs in
    let is = drafted Letters header d outputs printed outputs_printed in
    let read = (word_lines 1 no_draft _ (text ++ [] ∷ []) is.read (clear_lines d is.numbered is.lists)).1 in
    ap (λ ls. then_read (add_lines_by add_word_line 1 no_draft ls) (finish (line_after ls))) is.lines
    ∙ ap (λ r. then_read r (finish (line_after (text ++ [] ∷ [])))) read
    ∙ finish_printed Letters header d outputs printed outputs_printed (line_after (text ++ [] ∷ [])) is.numbered is.lists

-- the text determines the outputs and where letters lead
contains_number : (n i : ℕ) → i < n → Contains (range_with_len 0 n) i
contains_number n i low = subst (Contains (range_with_len 0 n)) (get_or-range_with_len 0 n i 0 low ∙ zero_plus i) (Contains-get_or (range_with_len 0 n) i 0 (let long = length-range_with_len 0 n in omega arith))
  where
    zero_plus : (m : ℕ) → 0 + m ≡ m
    zero_plus m = omega arith

line_there : (d : Automaton) (q letter t : ℕ) → q < states_of d → letter < letters_of d → step_of d q letter ≡ Some t
    → Contains (flat_map (steps_listed d) (range_with_len 0 (states_of d))) (record { state = q; digits = map Some (digits_of_letter d.sizes letter); targets = t ∷ [] })
line_there d q letter t within low h =
    let line : ListedLine = record { state = q; digits = map Some (digits_of_letter d.sizes letter); targets = t ∷ [] } in
    Contains-flat_map (steps_listed d) (range_with_len 0 (states_of d)) q line (contains_number (states_of d) q within)
    (Contains-flat_map (λ a. step_listed q (digits_of_letter d.sizes a) (step_of d q a)) (range_with_len 0 (letters_of d)) letter line (contains_number (letters_of d) letter low)
    (subst (λ (o : Option ℕ). Contains (step_listed q (digits_of_letter d.sizes letter) o) line) (sym h) (Contains-head line [])))

same_numbers : (a b : List ℕ) → map Some a ≡ map Some b → a ≡ b
same_numbers [] [] h = refl
same_numbers [] (n ∷ b) h = absurd (let e : [] ≡ Some n ∷ map Some b = h in cc)
same_numbers (m ∷ a) [] h = absurd (let e : Some m ∷ map Some a ≡ [] = h in cc)
same_numbers (m ∷ a) (n ∷ b) h =
    let e : Some m ∷ map Some a ≡ Some n ∷ map Some b = h in
    let first : m ≡ n = cc in
    let others : map Some a ≡ map Some b = cc in
    ap (λ k. k ∷ a) first ∙ ap (λ c. n ∷ c) (same_numbers a b others)

step_in_both : (d e : Automaton) (q letter t : ℕ) → d.sizes ≡ e.sizes → flat_map (steps_listed d) (range_with_len 0 (states_of d)) ≡ flat_map (steps_listed e) (range_with_len 0 (states_of e)) → q < states_of d → letter < letters_of d → step_of d q letter ≡ Some t → step_of e q letter ≡ Some t
step_in_both d e q letter t sizes same within low h =
    let line : ListedLine = record { state = q; digits = map Some (digits_of_letter d.sizes letter); targets = t ∷ [] } in
    let is = listed_line_is e line (subst (λ (ls : List ListedLine). Contains ls line) same (line_there d q letter t within low h)) in
    let digits : digits_of_letter d.sizes letter ≡ digits_of_letter e.sizes is.letter = same_numbers (digits_of_letter d.sizes letter) (digits_of_letter e.sizes is.letter) is.digits in
    let letters : letter ≡ is.letter =
    sym (letter_digits d.sizes letter low).1 ∙ ap (code_of d.sizes) digits ∙ ap (λ (s : List ℕ). code_of s (digits_of_letter e.sizes is.letter)) sizes ∙ (letter_digits e.sizes is.letter is.low).1 in
    let target : t ≡ is.target = let f : t ∷ [] ≡ is.target ∷ [] = is.targets in cc in
    ap (step_of e q) letters ∙ is.leads ∙ ap Some (sym target)

same_option : (o p : Option ℕ) → ((t : ℕ) → o ≡ Some t → p ≡ Some t) → ((t : ℕ) → p ≡ Some t → o ≡ Some t) → o ≡ p
same_option None None h k = refl
same_option None (Some t) h k = k t refl
same_option (Some t) p h k = sym (h t refl)

pub equal_texts_have_equal_words : EqualTextsHaveEqualWords
equal_texts_have_equal_words systems d e outputs others over under are are' same = (
  outputs_same,
  λ q letter within low. same_option (step_of d q letter) (step_of e q letter)
      (λ t h. step_in_both d e q letter t sizes lines within low h)
      (λ t h. step_in_both e d q letter t (sym sizes) (sym lines) (omega (arith, within, count)) (subst (λ (s : List ℕ). letter < product s) sizes low) h),
)
  where
    listed : word_listed (Systems systems) d outputs ≡ word_listed (Systems systems) e others
    listed =
        let f : Ok (word_listed (Systems systems) d outputs) ≡ Ok (word_listed (Systems systems) e others) = sym (text_lists_word systems d outputs over are) ∙ ap word_of same ∙ text_lists_word systems e others under are' in
        cc

    outputs_same : outputs ≡ others
    outputs_same = ap (λ (l : Listed). l.outputs) listed

    lines : flat_map (steps_listed d) (range_with_len 0 (states_of d)) ≡ flat_map (steps_listed e) (range_with_len 0 (states_of e))
    lines = ap (λ (l : Listed). l.lines) listed

    sizes : d.sizes ≡ e.sizes
    sizes = over.sizes ∙ sym under.sizes

    count : states_of d ≡ states_of e
    count = sym are.count ∙ ap length outputs_same ∙ are'.count
