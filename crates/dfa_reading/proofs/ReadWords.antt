-- What a word's file lists is functional, and its tracks are of systems.
use Rattle.std.proofs.Common.{◌≡◌, ℕ, ◌+◌, ◌<◌, Bool, true, false, ◌&&◌, cond, eqb, List, [], ◌∷◌, length, ℤ, Option, None, Some, Ok, Err, inl, inr, refl, sym, ap, ◌∙◌, subst, true≢false, arith}
use Rattle.std.specs.Prelude.{ok_or, option_map}
use Rattle.std.specs.List.{Contains, list_all}
use Rattle.std.proofs.lemmas.Bool.{and_parts}
use Rattle.digit_tuple.proofs.MemberLemmas.{Contains-head, Contains-tail, Contains-cases, Contains-none}
use Rattle.dfa_reading.specs.Lines.{◌>>=◌, lines_of, line_after, is_passed, parts_of, each_of}
use Rattle.dfa_reading.specs.Systems.{system_of, directs_as, of_one_direction, systems_of}
use Rattle.dfa_reading.specs.Headers.{Header, Truth, Systems, Sets, has_states, digits_in, or_else, truth_of, sets_of, header_of}
use Rattle.dfa_reading.specs.Entries.{Entry, State, Line, entry_of}
use Rattle.dfa_reading.specs.Listed.{ListedLine, Listed, Takes}
use Rattle.dfa_reading.specs.declared.outputs.Outputs.{Outputs}
use Rattle.dfa_reading.specs.declared.outputs.Outputs.TheVariants.{Letters}
use Rattle.dfa_reading.specs.Reading.{Draft, no_draft, with_header, with_state, with_line, has_number, add_entry, add_to, add_line, add_lines_by, then_read, state_at, placed_line, placed_lines, lists, finish_with, finish}
use Rattle.dfa_reading.specs.Conflicts.{are_without_conflict}
use Rattle.dfa_reading.specs.WordFiles.{is_of_systems, are_of_systems, is_word, kept_word, add_word_line, word_of, IsFunctional, IsWordListed, WordFilesListWords}
use Rattle.dfa_reading.proofs.Options.{bind_some, map_some, cond_some, cond_some-then}
use Rattle.dfa_reading.proofs.Drafts.{then_ok, ok_some}
use Rattle.dfa_reading.proofs.ConflictLemmas.{takes_tuple, taken_tuple, share_target, no_conflict}

-- what each line keeps holds after all
pub lines_kept : (P : Draft → Type 0) (add : ℕ → Draft → List ℕ → Option Draft) → ((at : ℕ) (draft next : Draft) (line : List ℕ) → add at draft line ≡ Some next → P draft → P next)
    → (at : ℕ) (draft last : Draft) (lines : List (List ℕ)) → add_lines_by add at draft lines ≡ Ok last → P draft → P last
lines_kept P add keeps at draft last [] h is = let same : draft ≡ last = let e : Ok draft ≡ Ok last = h in cc in subst P same is
lines_kept P add keeps at draft last (line ∷ lines) h is =
    let first = then_ok (ok_or (add at draft line) at) (λ next. add_lines_by add (at + 1) next lines) last h in
    lines_kept P add keeps (at + 1) first.0 last lines first.2 (keeps at draft first.0 line (ok_some (add at draft line) at first.0 first.1) is)

-- the header that was read is that of a line
abbrev pub IsHeaded : Draft → Type 0
IsHeaded draft = (header : Header) → draft.header ≡ Some header → (line : List ℕ) × (header_of line ≡ Some header)

entry_headed : (at : ℕ) (draft next : Draft) (entry : Entry) → add_entry at draft entry ≡ Some next → IsHeaded draft → IsHeaded next
entry_headed at draft next (State n output) h is =
    let added = cond_some (has_number draft.numbers n) (Some (with_state draft n output)) next h in
    let same : with_state draft n output ≡ next = let e : Some (with_state draft n output) ≡ Some next = added.1 in cc in
    subst IsHeaded same is
entry_headed at draft next (Line digits targets) h is =
    let added = cond_some (eqb (length draft.outputs) 0) (Some (with_line at draft digits targets)) next h in
    let same : with_line at draft digits targets ≡ next = let e : Some (with_line at draft digits targets) ≡ Some next = added.1 in cc in
    subst IsHeaded same is

to_headed : (o : Outputs) (at : ℕ) (draft next : Draft) (line : List ℕ) (header : Option Header) → add_to o at draft line header ≡ Some next → IsHeaded draft → IsHeaded next
to_headed o at draft next line None h is =
    let read = map_some (header_of line) (with_header draft) next h in
    let first : IsHeaded (with_header draft read.0) = λ other there. let same : read.0 ≡ other = let e : Some read.0 ≡ Some other = there in cc in (line, read.1 ∙ ap Some same) in
    subst IsHeaded read.2 first
to_headed o at draft next line (Some header) h is =
    let below = cond_some-then (has_states header) (entry_of o (digits_in header) line >>= add_entry at draft) next h in
    let read = bind_some (entry_of o (digits_in header) line) (add_entry at draft) next below.1 in
    entry_headed at draft next read.0 read.2 is

pub line_headed : (o : Outputs) (at : ℕ) (draft next : Draft) (line : List ℕ) → add_line o at draft line ≡ Some next → IsHeaded draft → IsHeaded next
unfolding add_line
line_headed o at draft next line h is = by (is_passed line) h
  where
    by : (b : Bool) → cond b (Some draft) (add_to o at draft line draft.header) ≡ Some next → IsHeaded next
    by true e = let same : draft ≡ next = let f : Some draft ≡ Some next = e in cc in subst IsHeaded same is
    by false e = to_headed o at draft next line draft.header e is

-- a header of systems is a line of them, at least one
pub or_else_some : {A : Type 0} (o other : Option A) (x : A) (P : Type 0) → (o ≡ Some x → P) → (other ≡ Some x → P) → or_else o other ≡ Some x → P
or_else_some None other x P first second h = second h
or_else_some (Some y) other x P first second h = first h

pub line_of_systems : (line : List ℕ) (names : List (List ℕ)) → header_of line ≡ Some (Systems names) → systems_of line ≡ Some names
unfolding header_of
line_of_systems line names h =
    or_else_some (option_map Truth (truth_of line)) (or_else (option_map Systems (systems_of line)) (option_map Sets (sets_of line))) (Systems names) (systems_of line ≡ Some names)
    (λ e. let read = map_some (truth_of line) Truth (Systems names) e in let other : Truth read.0 ≡ Systems names = read.2 in absurd (cc))
    (λ rest. or_else_some (option_map Systems (systems_of line)) (option_map Sets (sets_of line)) (Systems names) (systems_of line ≡ Some names)
    (λ e. let read = map_some (systems_of line) Systems (Systems names) e in let same : read.0 ≡ names = let s : Systems read.0 ≡ Systems names = read.2 in cc in read.1 ∙ ap Some same)
    (λ e. let read = map_some (sets_of line) Sets (Systems names) e in let other : Sets read.0 ≡ Systems names = read.2 in absurd (cc))
    rest)
    h

some_name : (found names : List (List ℕ)) → of_one_direction found ≡ Some names → 0 < length names
some_name [] names h = absurd (cc)
some_name (name ∷ found) names h =
    let kept = cond_some-then (list_all (directs_as name) found) (Some (name ∷ found)) names h in
    let same : name ∷ found ≡ names = let e : Some (name ∷ found) ≡ Some names = kept.1 in cc in
    omega (arith, ap length same)

pub some_system : (line : List ℕ) (names : List (List ℕ)) → systems_of line ≡ Some names → 0 < length names
unfolding systems_of
some_system line names h = let found = bind_some (each_of system_of (parts_of line)) of_one_direction names h in some_name found.0 names found.2

-- what is listed comes of what was read
each_from : {A B : Type 0} (f : A → Option B) (xs : List A) (ys : List B) (y : B) → each_of f xs ≡ Some ys → Contains ys y → (x : A) × Contains xs x × (f x ≡ Some y)
each_from f [] ys y h there = let none : ys ≡ [] = cc in absurd (Contains-none y (subst (λ zs. Contains zs y) none there))
each_from f (x ∷ xs) ys y h there =
    let first = bind_some (f x) (λ z. each_of f xs >>= (λ zs. Some (z ∷ zs))) ys h in
    let rest = bind_some (each_of f xs) (λ zs. Some (first.0 ∷ zs)) ys first.2 in
    let is : first.0 ∷ rest.0 ≡ ys = let e : Some (first.0 ∷ rest.0) ≡ Some ys = rest.2 in cc in
    elim (Contains-cases first.0 rest.0 y (subst (λ zs. Contains zs y) (sym is) there)) [
      | inl same ↦ (x, Contains-head x xs, first.1 ∙ ap Some same)
      | inr later ↦ (let (z, among, gives) = each_from f xs rest.0 y rest.1 later in (z, Contains-tail x xs z among, gives))
    ]

-- a listed line was read, and each target is the place of a number
pub record IsPlacedLine (numbers : List ℕ) (line placed : ListedLine) : Type 0 where
  pub state : placed.state ≡ line.state
  pub digits : placed.digits ≡ line.digits
  pub targets : (q : ℕ) → Contains placed.targets q → (n : ℕ) × Contains line.targets n × (state_at numbers n ≡ Some q)

is_placed : (numbers : List ℕ) (line placed : ListedLine) → placed_line numbers line ≡ Some placed → IsPlacedLine numbers line placed
is_placed numbers line placed h =
    let read = map_some (each_of (state_at numbers) line.targets) (λ targets. record line { targets = targets }) placed h in
    record {
      state = sym (ap (λ (l : ListedLine). l.state) read.2);
      digits = sym (ap (λ (l : ListedLine). l.digits) read.2);
      targets = λ q there. each_from (state_at numbers) line.targets read.0 q read.1 (subst (λ (l : ListedLine). Contains l.targets q) (sym read.2) there);
    }

pub placed_from : (numbers : List ℕ) (lines : List (ℕ × ListedLine)) (placed : List ListedLine) (one : ListedLine) → placed_lines numbers lines ≡ Ok placed → Contains placed one → (line : ℕ × ListedLine) × Contains lines line × IsPlacedLine numbers line.1 one
placed_from numbers [] placed one h there = let none : [] ≡ placed = let e : Ok [] ≡ Ok placed = h in cc in absurd (Contains-none one (subst (λ ls. Contains ls one) (sym none) there))
placed_from numbers (line ∷ lines) placed one h there =
    let first = then_ok (ok_or (placed_line numbers line.1) line.0) (λ l. then_read (placed_lines numbers lines) (λ others. Ok (l ∷ others))) placed h in
    let rest = then_ok (placed_lines numbers lines) (λ others. Ok (first.0 ∷ others)) placed first.2 in
    let is : first.0 ∷ rest.0 ≡ placed = let e : Ok (first.0 ∷ rest.0) ≡ Ok placed = rest.2 in cc in
    elim (Contains-cases first.0 rest.0 one (subst (λ ls. Contains ls one) (sym is) there)) [
      | inl same ↦ (line, Contains-head line lines, subst (IsPlacedLine numbers line.1) same (is_placed numbers line.1 first.0 (ok_some (placed_line numbers line.1) line.0 first.0 first.1)))
      | inr later ↦ (let (other, among, placed_is) = placed_from numbers lines rest.0 one rest.1 later in (other, Contains-tail line lines other among, placed_is))
    ]

-- lines without conflict are functional where their targets are placed
pub functional_lines : (numbers : List ℕ) (lines : List (ℕ × ListedLine)) (header : Header) (outputs : List (Option ℤ)) (placed : List ListedLine) → are_without_conflict lines ≡ true → placed_lines numbers lines ≡ Ok placed
    → (sizes : List ℕ) → IsFunctional sizes (record { header = header; outputs = outputs; lines = placed })
functional_lines numbers lines header outputs placed apart h sizes p tuple q r (line, among, from, takes, to) (other, among', from', takes', to') =
    let (read, there, is) = placed_from numbers lines placed line h among in
    let (read', there', is') = placed_from numbers lines placed other h among' in
    let (n, target, place) = is.targets q to in
    let (m, target', place') = is'.targets r to' in
    let one : n ≡ m = share_target read.1 read'.1 n m (no_conflict lines read read' apart there there') (sym is.state ∙ from ∙ sym from' ∙ is'.state)
    (taken_tuple read.1.digits read'.1.digits tuple (takes_tuple sizes read.1.digits tuple (subst (λ ds. Takes sizes ds tuple) is.digits takes)) (takes_tuple sizes read'.1.digits tuple (subst (λ ds. Takes sizes ds tuple) is'.digits takes'))) target target' in
    let same : Some q ≡ Some r = sym place ∙ ap (state_at numbers) one ∙ place' in
    cc

-- the drafts of a word's file
word_kept : (at : ℕ) (draft next : Draft) (line : List ℕ) → add_word_line at draft line ≡ Some next → (add_line Letters at draft line ≡ Some next) × (is_word next ≡ true)
unfolding add_word_line
word_kept at draft next line h =
    let added = bind_some (add_line Letters at draft line) kept_word next h in
    let kept = cond_some-then (is_word added.0) (Some added.0) next added.2 in
    let same : added.0 ≡ next = let e : Some added.0 ≡ Some next = kept.1 in cc in
    (added.1 ∙ ap Some same, subst (λ d. is_word d ≡ true) same kept.0)

-- what was read is the prefix of a word's file, and its header is that of a line
pub record IsWordDraft (draft : Draft) : Type 0 where
  pub word : is_word draft ≡ true
  pub headed : IsHeaded draft

pub word_line_kept : (at : ℕ) (draft next : Draft) (line : List ℕ) → add_word_line at draft line ≡ Some next → IsWordDraft draft → IsWordDraft next
word_line_kept at draft next line h is = let (added, word) = word_kept at draft next line h in record { word = word; headed = line_headed Letters at draft next line added is.headed }

no_word_draft : IsWordDraft no_draft
no_word_draft = record { word = refl; headed = λ header none. let e : None ≡ Some header = none in absurd (cc) }

-- what is finished of such a draft
word_listed : (draft : Draft) (header : Header) (listed : Listed) → draft.header ≡ Some header → lists header draft ≡ Ok listed → IsWordDraft draft → IsWordListed listed
word_listed draft header listed there h is = by header there h
  where
    parts : (are_of_systems draft.header ≡ true) × (are_without_conflict draft.lines ≡ true)
    parts = and_parts (are_of_systems draft.header) (are_without_conflict draft.lines) is.word

    systems : (found : Header) → draft.header ≡ Some found → is_of_systems found ≡ true
    systems found e = sym (ap are_of_systems e) ∙ parts.0

    by : (found : Header) → draft.header ≡ Some found → lists found draft ≡ Ok listed → IsWordListed listed
    by (Truth value) e read = absurd (true≢false (sym (systems (Truth value) e)))
    by (Sets sets) e read = absurd (true≢false (sym (systems (Sets sets) e)))
    by (Systems names) e read =
        let placed = then_ok (placed_lines draft.numbers draft.lines) (λ lines. Ok (record { header = Systems names; outputs = draft.outputs; lines = lines })) listed read in
        let made : Listed = record { header = Systems names; outputs = draft.outputs; lines = placed.0 } in
        let same : made ≡ listed = let f : Ok made ≡ Ok listed = placed.2 in cc in
        let (line, header_found) = is.headed (Systems names) e in
        subst IsWordListed same (record {
          names = names;
          header = refl;
          some = some_system line names (line_of_systems line names header_found);
          functional = functional_lines draft.numbers draft.lines (Systems names) draft.outputs placed.0 parts.1 placed.1;
        })

word_finished : (after : ℕ) (draft : Draft) (header : Option Header) (listed : Listed) → draft.header ≡ header → finish_with after header draft ≡ Ok listed → IsWordDraft draft → IsWordListed listed
word_finished after draft None listed there h is = absurd (cc)
word_finished after draft (Some header) listed there h is = by (has_states header && eqb (length draft.outputs) 0) h
  where
    by : (b : Bool) → cond b (Err after) (lists header draft) ≡ Ok listed → IsWordListed listed
    by true e = absurd (cc)
    by false e = word_listed draft header listed there e is

pub word_files_list_words : WordFilesListWords
unfolding word_of
word_files_list_words text listed h =
    let read = then_ok (add_lines_by add_word_line 1 no_draft (lines_of text)) (finish (line_after (lines_of text))) listed h in
    word_finished (line_after (lines_of text)) read.0 read.0.header listed refl read.2
    (lines_kept IsWordDraft add_word_line word_line_kept 1 no_draft read.0 (lines_of text) read.1 no_word_draft)
