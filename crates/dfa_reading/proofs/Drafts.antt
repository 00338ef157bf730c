-- What holds of each draft, and of what a file lists.
use Rattle.std.proofs.Common.{◌≡◌, ℕ, zero, suc, ◌-◌, ◌<◌, Bool, true, false, cond, eqb, List, [], ◌∷◌, ◌++◌, length, ℤ, Option, None, Some, Result, Ok, Err, refl, sym, ap, ◌∙◌, subst, arith}
use Rattle.std.specs.Prelude.{ok_or}
use Rattle.std.specs.List.{All, AllByRecursion}
use Rattle.std.proofs.lemmas.Bool.{eqb-false}
use Rattle.std.proofs.lemmas.List.{length_push}
use Rattle.std.proofs.lemmas.List.Quantifiers.{position-Some}
use Rattle.digit_tuple.proofs.AllLemmas.{all_weaker}
use Rattle.dfa_reading.specs.Lines.{◌>>=◌, is_passed, parts_of, arrow_at, each_of}
use Rattle.dfa_reading.specs.Headers.{Header, Digits, digits_in, has_states, header_of}
use Rattle.dfa_reading.specs.Listed.{ListedLine, IsListedLine, IsListed}
use Rattle.dfa_reading.specs.Entries.{Entry, State, Line, digit_of, digits_of, targets_of, state_number, output_by, state_of, entry_by, entry_of}
use Rattle.dfa_reading.specs.declared.outputs.Outputs.{Outputs}
use Rattle.dfa_reading.specs.Reading.{Draft, with_header, with_state, with_line, has_number, add_entry, add_to, add_line, then_read, state_at, placed_line, placed_lines, tracks_in, IsDraftLine, IsDraft}
use Rattle.dfa_reading.proofs.Options.{bind_some, map_some, cond_some, cond_some-then, each_holds}

-- a line has a digit for each track
digits_length : (tracks : List Digits) (parts : List (List ℕ)) (digits : List (Option ℕ)) → digits_of tracks parts ≡ Some digits → length digits ≡ length tracks
digits_length [] [] digits h = let none : digits ≡ [] = cc in ap length none
digits_length [] (part ∷ parts) digits h = absurd (cc)
digits_length (track ∷ tracks) [] digits h = absurd (cc)
digits_length (track ∷ tracks) (part ∷ parts) digits h =
    let first = bind_some (digit_of track part) (λ digit. digits_of tracks parts >>= (λ ds. Some (digit ∷ ds))) digits h in
    let rest = bind_some (digits_of tracks parts) (λ ds. Some (first.0 ∷ ds)) digits first.2 in
    let is : first.0 ∷ rest.0 ≡ digits = let e : Some (first.0 ∷ rest.0) ≡ Some digits = rest.2 in cc in
    omega (arith, digits_length tracks parts rest.0 rest.1, ap length is)

state_no_line : (o : Outputs) (parts : List (List ℕ)) (digits : List (Option ℕ)) (targets : List ℕ) → state_of o parts ≡ Some (Line digits targets) → ⊥
state_no_line o [] digits targets h = cc
state_no_line o (a ∷ []) digits targets h = cc
state_no_line o (a ∷ b ∷ []) digits targets h =
    let number = bind_some (state_number a) (λ n. output_by o b >>= (λ z. Some (State n z))) (Line digits targets) h in
    let output = bind_some (output_by o b) (λ z. Some (State number.0 z)) (Line digits targets) number.2 in
    let other : Some (State number.0 output.0) ≡ Some (Line digits targets) = output.2 in cc
state_no_line o (a ∷ b ∷ d ∷ parts) digits targets h = cc

entry_digits-by : (o : Outputs) (tracks : List Digits) (line : List ℕ) (arrow : Option (List ℕ × List ℕ)) (digits : List (Option ℕ)) (targets : List ℕ) → entry_by o tracks line arrow ≡ Some (Line digits targets) → length digits ≡ length tracks
entry_digits-by o tracks line None digits targets h = absurd (state_no_line o (parts_of line) digits targets h)
entry_digits-by o tracks line (Some p) digits targets h =
    let first = bind_some (digits_of tracks (parts_of p.0)) (λ ds. targets_of (parts_of p.1) >>= (λ ts. Some (Line ds ts))) (Line digits targets) h in
    let second = bind_some (targets_of (parts_of p.1)) (λ ts. Some (Line first.0 ts)) (Line digits targets) first.2 in
    let is : first.0 ≡ digits = let e : Some (Line first.0 second.0) ≡ Some (Line digits targets) = second.2 in cc in
    ap length (sym is) ∙ digits_length tracks (parts_of p.0) first.0 first.1

entry_digits : (o : Outputs) (tracks : List Digits) (line : List ℕ) (digits : List (Option ℕ)) (targets : List ℕ) → entry_of o tracks line ≡ Some (Line digits targets) → length digits ≡ length tracks
unfolding entry_of
entry_digits o tracks line digits targets h = entry_digits-by o tracks line (arrow_at line) digits targets h

all_push : {X : Type 0} (P : X → Type 0) (xs : List X) (x : X) → AllByRecursion P xs → P x → AllByRecursion P (xs ++ x ∷ [])
all_push P [] x h k = (k, tt)
all_push P (y ∷ ys) x h k = (h.0, all_push P ys x h.1 k)

-- a header was read
header_kept : (draft : Draft) (header : Header) → draft.header ≡ None → IsDraft draft → IsDraft (with_header draft header)
header_kept draft header none is = record {
  numbers = is.numbers;
  lines = subst (AllByRecursion (IsDraftLine (length (digits_in header)) (length draft.outputs))) (sym (is.none none)) tt;
  none = λ e. let other : Some header ≡ None = e in absurd (cc);
}

-- a state was read
state_kept : (draft : Draft) (n : ℕ) (output : Option ℤ) → IsDraft draft → IsDraft (with_state draft n output)
state_kept draft n output is = record {
  numbers = omega (arith, length_push draft.numbers n, length_push draft.outputs output, is.numbers);
  lines = all_weaker (IsDraftLine (tracks_in draft.header) (length draft.outputs)) (IsDraftLine (tracks_in draft.header) (length (draft.outputs ++ output ∷ [])))
      (λ line h. record { state = omega (arith, h.state, length_push draft.outputs output); digits = h.digits }) draft.lines is.lines;
  none = is.none;
}

-- transitions were read
line_kept : (at : ℕ) (draft : Draft) (header : Header) (digits : List (Option ℕ)) (targets : List ℕ) → draft.header ≡ Some header → length digits ≡ length (digits_in header) → eqb (length draft.outputs) 0 ≡ false → IsDraft draft → IsDraft (with_line at draft digits targets)
line_kept at draft header digits targets there long some is =
    let apart : length draft.outputs ≡ 0 → ⊥ = eqb-false (length draft.outputs) 0 some in
    record {
      numbers = is.numbers;
      lines = all_push (IsDraftLine (tracks_in draft.header) (length draft.outputs)) draft.lines (at, record { state = length draft.outputs - 1; digits = digits; targets = targets }) is.lines
          (record { state = omega (arith, apart); digits = long ∙ sym (ap tracks_in there) });
      none = λ e. let other : Some header ≡ None = sym there ∙ e in absurd (cc);
    }

entry_kept : (at : ℕ) (draft next : Draft) (header : Header) (entry : Entry) → draft.header ≡ Some header → ((digits : List (Option ℕ)) (targets : List ℕ) → entry ≡ Line digits targets → length digits ≡ length (digits_in header)) → add_entry at draft entry ≡ Some next → IsDraft draft → IsDraft next
entry_kept at draft next header (State n output) there long h is =
    let added = cond_some (has_number draft.numbers n) (Some (with_state draft n output)) next h in
    let same : with_state draft n output ≡ next = let e : Some (with_state draft n output) ≡ Some next = added.1 in cc in
    subst IsDraft same (state_kept draft n output is)
entry_kept at draft next header (Line digits targets) there long h is =
    let added = cond_some (eqb (length draft.outputs) 0) (Some (with_line at draft digits targets)) next h in
    let same : with_line at draft digits targets ≡ next = let e : Some (with_line at draft digits targets) ≡ Some next = added.1 in cc in
    subst IsDraft same (line_kept at draft header digits targets there (long digits targets refl) added.0 is)

to_kept : (o : Outputs) (at : ℕ) (draft next : Draft) (line : List ℕ) (header : Option Header) → draft.header ≡ header → add_to o at draft line header ≡ Some next → IsDraft draft → IsDraft next
to_kept o at draft next line None there h is =
    let read = map_some (header_of line) (with_header draft) next h in
    subst IsDraft read.2 (header_kept draft read.0 there is)
to_kept o at draft next line (Some header) there h is =
    let below = cond_some-then (has_states header) (entry_of o (digits_in header) line >>= add_entry at draft) next h in
    let read = bind_some (entry_of o (digits_in header) line) (add_entry at draft) next below.1 in
    entry_kept at draft next header read.0 there (λ digits targets e. entry_digits o (digits_in header) line digits targets (read.1 ∙ ap Some e)) read.2 is

pub line_read-kept : (o : Outputs) (at : ℕ) (draft next : Draft) (line : List ℕ) → add_line o at draft line ≡ Some next → IsDraft draft → IsDraft next
unfolding add_line
line_read-kept o at draft next line h is = by (is_passed line) h
  where
    by : (b : Bool) → cond b (Some draft) (add_to o at draft line draft.header) ≡ Some next → IsDraft next
    by true e = let same : draft ≡ next = let f : Some draft ≡ Some next = e in cc in subst IsDraft same is
    by false e = to_kept o at draft next line draft.header refl e is

-- what a file lists
pub then_ok : {A B : Type 0} (r : Result A ℕ) (f : A → Result B ℕ) (y : B) → then_read r f ≡ Ok y → (x : A) × (r ≡ Ok x) × (f x ≡ Ok y)
then_ok (Ok x) f y h = (x, refl, h)
then_ok (Err at) f y h = absurd (cc)

pub ok_some : {A : Type 0} (o : Option A) (at : ℕ) (x : A) → ok_or o at ≡ Ok x → o ≡ Some x
ok_some None at x h = absurd (cc)
ok_some (Some y) at x h = let same : y ≡ x = cc in ap Some same

within : (numbers : List ℕ) (n place : ℕ) → state_at numbers n ≡ Some place → place < length numbers
within numbers n place h = (position-Some (λ m. eqb n m) numbers place 0 h).0

all_from : {X : Type 0} (P : X → Type 0) (xs : List X) → AllByRecursion P xs → All P xs
all_from P [] h k d lt = absurd (omega arith)
all_from P (x ∷ xs) h zero d lt = h.0
all_from P (x ∷ xs) h (suc k) d lt = all_from P xs h.1 k d (omega arith)

placed_is : (tracks states : ℕ) (numbers : List ℕ) (line : ℕ × ListedLine) (placed : ListedLine) → length numbers ≡ states → IsDraftLine tracks states line → placed_line numbers line.1 ≡ Some placed → IsListedLine tracks states placed
placed_is tracks states numbers line placed count is h =
    let read = map_some (each_of (state_at numbers) line.1.targets) (λ targets. record line.1 { targets = targets }) placed h in
    let inside : AllByRecursion (λ target. target < states) read.0 = each_holds (state_at numbers) (λ target. target < states) (λ n place e. let lt = within numbers n place e in omega arith) line.1.targets read.0 read.1 in
    subst (IsListedLine tracks states) read.2 (record { state = is.state; digits = is.digits; targets = all_from (λ target. target < states) read.0 inside })

lines_are : (tracks states : ℕ) (numbers : List ℕ) (lines : List (ℕ × ListedLine)) (placed : List ListedLine) → length numbers ≡ states → AllByRecursion (IsDraftLine tracks states) lines → placed_lines numbers lines ≡ Ok placed → AllByRecursion (IsListedLine tracks states) placed
lines_are tracks states numbers [] placed count is h = let same : [] ≡ placed = let e : Ok [] ≡ Ok placed = h in cc in subst (AllByRecursion (IsListedLine tracks states)) same tt
lines_are tracks states numbers (line ∷ lines) placed count is h =
    let first = then_ok (ok_or (placed_line numbers line.1) line.0) (λ one. then_read (placed_lines numbers lines) (λ others. Ok (one ∷ others))) placed h in
    let rest = then_ok (placed_lines numbers lines) (λ others. Ok (first.0 ∷ others)) placed first.2 in
    let same : first.0 ∷ rest.0 ≡ placed = let e : Ok (first.0 ∷ rest.0) ≡ Ok placed = rest.2 in cc in
    subst (AllByRecursion (IsListedLine tracks states)) same
    (placed_is tracks states numbers line first.0 count is.0 (ok_some (placed_line numbers line.1) line.0 first.0 first.1), lines_are tracks states numbers lines rest.0 count is.1 rest.1)

pub IsListed-placed : (draft : Draft) (header : Header) (lines : List ListedLine) → draft.header ≡ Some header → placed_lines draft.numbers draft.lines ≡ Ok lines → IsDraft draft → IsListed (record { header = header; outputs = draft.outputs; lines = lines })
IsListed-placed draft header lines there placed is =
    all_from (IsListedLine (length (digits_in header)) (length draft.outputs)) lines
    (lines_are (length (digits_in header)) (length draft.outputs) draft.numbers draft.lines lines is.numbers
    (subst (λ (h : Option Header). AllByRecursion (IsDraftLine (tracks_in h) (length draft.outputs)) draft.lines) there is.lines) placed)
