-- One line more of a word's file.
use Rattle.std.proofs.Common.{◌≡◌, ℕ, ◌+◌, ◌-◌, ◌<◌, Bool, true, false, cond, ◌&&◌, eqb, ltb, List, [], ◌∷◌, ◌++◌, length, slice_get, ℤ, Option, None, Some, Ok, refl, sym, ap, ◌∙◌, subst, arith}
use Rattle.std.specs.Prelude.{ok_or}
use Rattle.std.specs.List.{AllByRecursion}
use Rattle.std.proofs.lemmas.Bool.{and_parts, lt-ltb}
use Rattle.std.proofs.lemmas.Bool.Decides.{nat_tests}
use Rattle.std.proofs.lemmas.List.{length_push}
use Rattle.std.proofs.lemmas.Option.{slice_get_past}
use Rattle.dfa_reading.specs.Lines.{◌>>=◌, is_passed}
use Rattle.dfa_reading.specs.Headers.{Header, has_states, digits_in, header_of}
use Rattle.dfa_reading.specs.Entries.{Entry, State, Line, entry_of}
use Rattle.dfa_reading.specs.Listed.{ListedLine}
use Rattle.dfa_reading.specs.declared.outputs.Outputs.{Outputs}
use Rattle.dfa_reading.specs.declared.outputs.Outputs.TheVariants.{Letters}
use Rattle.dfa_reading.specs.Reading.{Draft, with_header, with_state, with_line, has_number, add_entry, add_to, add_line, add_lines_by, add_lines, tracks_in, IsDraftLine}
use Rattle.dfa_reading.specs.Conflicts.{are_without_conflict}
use Rattle.dfa_reading.specs.StarTables.{StarTable}
use Rattle.dfa_reading.specs.Transitions.{Transition, agree_all, to_each, AreIndexed}
use Rattle.dfa_reading.specs.WordFiles.{is_of_systems, are_of_systems, is_word, kept_word, add_word_line}
use Rattle.dfa_reading.specs.WordDrafts.{transitions_from, IsReading, after_line, agrees_line}
use Rattle.dfa_reading.proofs.Options.{bind_some, map_some, cond_some, cond_some-then}
use Rattle.dfa_reading.proofs.Drafts.{line_read-kept, then_ok, ok_some}
use Rattle.dfa_reading.proofs.ReadDrafts.{add_lines_by-step}
use Rattle.dfa_reading.proofs.ConflictLemmas.{both_hold}
use Rattle.dfa_reading.proofs.WordLines.{transitions_from-own, transitions_from-none, without_conflict-push, without_conflict-fewer}

-- what a line adds: nothing, a header, a state, or transitions of the last state
entry_cases : (P : Draft → Type 0) (at : ℕ) (draft next : Draft) (entry : Entry) → add_entry at draft entry ≡ Some next
    → ((n : ℕ) (output : Option ℤ) → P (with_state draft n output)) → ((digits : List (Option ℕ)) (targets : List ℕ) → P (with_line at draft digits targets)) → P next
entry_cases P at draft next (State n output) h state line =
    let added = cond_some (has_number draft.numbers n) (Some (with_state draft n output)) next h in
    let same : with_state draft n output ≡ next = let e : Some (with_state draft n output) ≡ Some next = added.1 in cc in
    subst P same (state n output)
entry_cases P at draft next (Line digits targets) h state line =
    let added = cond_some (eqb (length draft.outputs) 0) (Some (with_line at draft digits targets)) next h in
    let same : with_line at draft digits targets ≡ next = let e : Some (with_line at draft digits targets) ≡ Some next = added.1 in cc in
    subst P same (line digits targets)

to_cases : (P : Draft → Type 0) (o : Outputs) (at : ℕ) (draft next : Draft) (line : List ℕ) (header : Option Header) → draft.header ≡ header → add_to o at draft line header ≡ Some next
    → ((h : Header) → draft.header ≡ None → P (with_header draft h)) → ((n : ℕ) (output : Option ℤ) → P (with_state draft n output)) → ((digits : List (Option ℕ)) (targets : List ℕ) → P (with_line at draft digits targets)) → P next
to_cases P o at draft next line None there h one two three = let read = map_some (header_of line) (with_header draft) next h in subst P read.2 (one read.0 there)
to_cases P o at draft next line (Some header) there h one two three =
    let below = cond_some-then (has_states header) (entry_of o (digits_in header) line >>= add_entry at draft) next h in
    let read = bind_some (entry_of o (digits_in header) line) (add_entry at draft) next below.1 in
    entry_cases P at draft next read.0 read.2 two three

pub line_cases : (o : Outputs) (P : Draft → Type 0) (at : ℕ) (draft next : Draft) (line : List ℕ) → add_line o at draft line ≡ Some next
    → P draft → ((h : Header) → draft.header ≡ None → P (with_header draft h)) → ((n : ℕ) (output : Option ℤ) → P (with_state draft n output)) → ((digits : List (Option ℕ)) (targets : List ℕ) → P (with_line at draft digits targets)) → P next
unfolding add_line
line_cases o P at draft next line h none one two three = by (is_passed line) h
  where
    by : (b : Bool) → cond b (Some draft) (add_to o at draft line draft.header) ≡ Some next → P next
    by true e = let same : draft ≡ next = let f : Some draft ≡ Some next = e in cc in subst P same none
    by false e = to_cases P o at draft next line draft.header refl e one two three

-- what a reader knows of the line's draft
record IsStep (draft : Draft) (list : List Transition) (next : Draft) : Type 0 where
  word : is_word next ≡ (are_of_systems next.header && agrees_line (ltb (length draft.outputs) (length next.outputs)) (slice_get next.lines (length draft.lines)) list)
  last : after_line (ltb (length draft.outputs) (length next.outputs)) (slice_get next.lines (length draft.lines)) list ≡ transitions_from (length next.outputs - 1) next.lines

not_below : (n : ℕ) → ltb n n ≡ false
not_below n = grind (arith, nat_tests)

-- where there is no line and no state more
no_more : {A : Type 0} (f : Bool → Option (ℕ × ListedLine) → A) (outputs : List (Option ℤ)) (lines : List (ℕ × ListedLine)) → f (ltb (length outputs) (length outputs)) (slice_get lines (length lines)) ≡ f false None
no_more f outputs lines =
    ap (λ b. f b (slice_get lines (length lines))) (not_below (length outputs)) ∙ ap (f false) (slice_get_past lines (length lines) (omega arith))

slice_get-last : {A : Type 0} (xs : List A) (x : A) → slice_get (xs ++ x ∷ []) (length xs) ≡ Some x
slice_get-last [] x = refl
slice_get-last (y ∷ xs) x = slice_get-last xs x

-- the lines of a state that is new
all_states : (tracks states : ℕ) (lines : List (ℕ × ListedLine)) → AllByRecursion (IsDraftLine tracks states) lines → AllByRecursion (λ line. line.1.state < states) lines
all_states tracks states [] h = tt
all_states tracks states (line ∷ lines) h = (h.0.state, all_states tracks states lines h.1)

module _ (draft : Draft) (list : List Transition) (tables : List StarTable) (is : IsReading draft list tables) where
  parts : (are_of_systems draft.header ≡ true) × (are_without_conflict draft.lines ≡ true)
  parts = and_parts (are_of_systems draft.header) (are_without_conflict draft.lines) is.word

  same_step : IsStep draft list draft
  same_step = record {
    word = ap (λ b. are_of_systems draft.header && b) (parts.1 ∙ sym (no_more (λ b line. agrees_line b line list) draft.outputs draft.lines));
    last = no_more (λ b line. after_line b line list) draft.outputs draft.lines ∙ is.last;
  }

  header_step : (header : Header) → IsStep draft list (with_header draft header)
  header_step header = record {
    word = ap (λ b. is_of_systems header && b) (parts.1 ∙ sym (no_more (λ b line. agrees_line b line list) draft.outputs draft.lines));
    last = no_more (λ b line. after_line b line list) draft.outputs draft.lines ∙ is.last;
  }

  state_step : (n : ℕ) (output : Option ℤ) → IsStep draft list (with_state draft n output)
  state_step n output =
      let more = length_push draft.outputs output in
      let new : ltb (length draft.outputs) (length (draft.outputs ++ output ∷ [])) ≡ true = lt-ltb (length draft.outputs) (length (draft.outputs ++ output ∷ [])) (omega (arith, more)) in
      let count : length (draft.outputs ++ output ∷ []) - 1 ≡ length draft.outputs = omega (arith, more) in
      record {
        word = ap (λ b. are_of_systems draft.header && b) (parts.1 ∙ sym (ap (λ b. agrees_line b (slice_get draft.lines (length draft.lines)) list) new));
        last = ap (λ b. after_line b (slice_get draft.lines (length draft.lines)) list) new
            ∙ sym (ap (λ s. transitions_from s draft.lines) count ∙ transitions_from-none (length draft.outputs) draft.lines (all_states (tracks_in draft.header) (length draft.outputs) draft.lines is.draft_is.lines));
      }

  line_step : (at : ℕ) (digits : List (Option ℕ)) (targets : List ℕ) → IsStep draft list (with_line at draft digits targets)
  line_step at digits targets =
      let one : ListedLine = record { state = length draft.outputs - 1; digits = digits; targets = targets } in
      let there : (ltb (length draft.outputs) (length draft.outputs) ≡ false) × (slice_get (draft.lines ++ (at, one) ∷ []) (length draft.lines) ≡ Some (at, one)) = (not_below (length draft.outputs), slice_get-last draft.lines (at, one)) in
      record {
        word = ap (λ b. are_of_systems draft.header && b)
            (without_conflict-push draft.lines (at, one) parts.1
            ∙ ap (λ l. agree_all l digits targets) (sym is.last)
            ∙ sym (ap (λ b. agrees_line b (slice_get (draft.lines ++ (at, one) ∷ []) (length draft.lines)) list) there.0 ∙ ap (λ o. agrees_line false o list) there.1));
        last = ap (λ b. after_line b (slice_get (draft.lines ++ (at, one) ∷ []) (length draft.lines)) list) there.0 ∙ ap (λ o. after_line false o list) there.1
            ∙ ap (λ l. l ++ to_each digits targets) is.last
            ∙ sym (transitions_from-own (length draft.outputs - 1) draft.lines (at, one) refl);
      }

  step : (at : ℕ) (next : Draft) (line : List ℕ) → add_line Letters at draft line ≡ Some next → IsStep draft list next
  step at next line h = line_cases Letters (IsStep draft list) at draft next line h same_step (λ header none. header_step header) state_step (line_step at)

  -- the line is added where its transitions agree with the others
  pub line_added : (at : ℕ) (next : Draft) (line : List ℕ) (states lines : ℕ) (b : Bool) → add_line Letters at draft line ≡ Some next → states ≡ length draft.outputs → lines ≡ length draft.lines → are_of_systems next.header ≡ true
      → b ≡ agrees_line (ltb states (length next.outputs)) (slice_get next.lines lines) list → is_word next ≡ b
  line_added at next line states lines b h states_are lines_are systems agrees =
      (step at next line h).word ∙ ap (λ c. c && agrees_line (ltb (length draft.outputs) (length next.outputs)) (slice_get next.lines (length draft.lines)) list) systems
      ∙ sym (agrees ∙ ap (λ n. agrees_line (ltb n (length next.outputs)) (slice_get next.lines lines) list) states_are ∙ ap (λ n. agrees_line (ltb (length draft.outputs) (length next.outputs)) (slice_get next.lines n) list) lines_are)

  -- and then the reader goes on
  pub IsReading-next : (at : ℕ) (next : Draft) (line : List ℕ) (states lines : ℕ) (new : List Transition) (new_tables : List StarTable) → add_line Letters at draft line ≡ Some next → states ≡ length draft.outputs → lines ≡ length draft.lines → is_word next ≡ true
      → new ≡ after_line (ltb states (length next.outputs)) (slice_get next.lines lines) list → AreIndexed new new_tables → IsReading next new new_tables
  IsReading-next at next line states lines new new_tables h states_are lines_are word last indexed = record {
    draft_is = line_read-kept Letters at draft next line h is.draft_is;
    word = word;
    last = last ∙ ap (λ n. after_line (ltb n (length next.outputs)) (slice_get next.lines lines) list) states_are ∙ ap (λ n. after_line (ltb (length draft.outputs) (length next.outputs)) (slice_get next.lines n) list) lines_are ∙ (step at next line h).last;
    indexed = indexed;
  }

pub add_word_line-is : (at : ℕ) (draft next : Draft) (line : List ℕ) (b : Bool) → add_line Letters at draft line ≡ Some next → is_word next ≡ b → cond b (Some next) None ≡ add_word_line at draft line
unfolding add_word_line
add_word_line-is at draft next line b h word = ap (λ c. cond c (Some next) None) (sym word) ∙ sym (ap (λ o. o >>= kept_word) h)

-- a draft of lines whose outputs are letters, which is that of a word's file
word_before : (at : ℕ) (draft next : Draft) (line : List ℕ) → add_line Letters at draft line ≡ Some next → is_word next ≡ true → is_word draft ≡ true
word_before at draft next line h =
    line_cases Letters (λ n. is_word n ≡ true → is_word draft ≡ true) at draft next line h (λ word. word)
    (λ header none word.
    let parts = and_parts (is_of_systems header) (are_without_conflict draft.lines) word in
    both_hold (are_of_systems draft.header) (are_without_conflict draft.lines) (ap are_of_systems none) parts.1)
    (λ n output word. word)
    (λ digits targets word.
    let one : ListedLine = record { state = length draft.outputs - 1; digits = digits; targets = targets } in
    let parts = and_parts (are_of_systems draft.header) (are_without_conflict (draft.lines ++ (at, one) ∷ [])) word in
    both_hold (are_of_systems draft.header) (are_without_conflict draft.lines) parts.0 (without_conflict-fewer draft.lines (at, one) parts.1))

pub word_lines : (at : ℕ) (draft last : Draft) (lines : List (List ℕ)) → add_lines Letters at draft lines ≡ Ok last → is_word last ≡ true → (is_word draft ≡ true) × (add_lines_by add_word_line at draft lines ≡ Ok last)
word_lines at draft last [] h word = (let same : draft ≡ last = let e : Ok draft ≡ Ok last = h in cc in subst (λ d. is_word d ≡ true) (sym same) word, h)
word_lines at draft last (line ∷ lines) h word =
    let first = then_ok (ok_or (add_line Letters at draft line) at) (λ next. add_lines Letters (at + 1) next lines) last h in
    let added = ok_some (add_line Letters at draft line) at first.0 first.1 in
    let rest = word_lines (at + 1) first.0 last lines first.2 word in
    (word_before at draft first.0 line added rest.0, add_lines_by-step add_word_line at draft first.0 line lines (sym (add_word_line-is at draft first.0 line true added rest.0)) ∙ rest.1)
