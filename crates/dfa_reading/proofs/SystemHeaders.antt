-- Headers of the files of users' systems.
use Rattle.std.proofs.Common.{◌≡◌, ℕ, ◌<◌, Bool, true, false, ◌&&◌, cond, eqb, List, [], ◌∷◌, length, get_or, ℤ, pos, Option, None, Some, Ok, Err, refl, sym, ap, ◌∙◌, subst, true≢false, replicate, IsSome, rules, arith}
use Rattle.std.specs.Prelude.{option_map}
use Rattle.std.specs.List.{AllByRecursion, slice_split, list_all}
use Rattle.std.specs.Ordering.{int_cmp, int_eq}
use Rattle.std.specs.Ordering.{match_ordering}
use Rattle.std.specs.BTreeSet.{insert_key}
use Rattle.std.specs.declared.cmp.Ordering.{Ordering}
use Rattle.std.specs.declared.cmp.Ordering.TheVariants.{Less, Equal, Greater}
use Rattle.std.proofs.lemmas.Bool.{and_parts, eqb-true, eqb-false}
use Rattle.std.proofs.lemmas.Bool.Decides.{Decides-int_eq}
use Rattle.std.proofs.lemmas.List.{ext_get_or}
use Rattle.std.proofs.lemmas.List.FromFn.{get_or-map-range_with_len}
use Rattle.text_grammar.specs.Bytes.{is_blank}
use Rattle.digit_tuple.specs.Systems.{digit_set}
use Rattle.digit_tuple.proofs.SystemLemmas.{length-digit_set}
use Rattle.dfa_reading.specs.Lines.{◌>>=◌, lines_of, line_after, each_of}
use Rattle.dfa_reading.specs.Headers.{Header, Truth, Systems, Sets, has_states, has_member, with_member, with_members, member_of, numbers_of, members_of, open_set_of, sets_between, sets_of, truth_of, or_else, header_of}
use Rattle.dfa_reading.specs.Systems.{systems_of}
use Rattle.dfa_reading.specs.Listed.{ListedLine, Listed}
use Rattle.dfa_reading.specs.declared.outputs.Outputs.TheVariants.{Numbers}
use Rattle.dfa_reading.specs.Reading.{Draft, no_draft, add_line, add_lines_by, placed_lines, lists, finish_with, finish}
use Rattle.dfa_reading.specs.SystemFiles.{is_same_set, is_language_header, is_adder_header, is_headed, kept_headed, add_headed_line, headed_of, language_of, adder_of, IsLanguageListed, LanguageFilesListLanguages, IsAdderListed, AdderFilesListAdders}
use Rattle.dfa_reading.proofs.Options.{bind_some, map_some, cond_some, cond_some-then}
use Rattle.dfa_reading.proofs.Drafts.{then_ok}
use Rattle.dfa_reading.proofs.ReadWords.{lines_kept, IsHeaded, line_headed, or_else_some}
use Rattle.dfa_reading.proofs.Splits.{split_some}
use Rattle.dfa_reading.proofs.WordSteps.{line_cases}

-- sets with the same members are the same list
same_list : (set other : List ℤ) → is_same_set set other ≡ true → set ≡ other
same_list [] [] h = refl
same_list [] (n ∷ other) h = absurd (true≢false (sym h))
same_list (m ∷ set) [] h = absurd (true≢false (sym h))
same_list (m ∷ set) (n ∷ other) h =
    let parts = and_parts (int_eq m n) (is_same_set set other) h in
    ap (λ k. k ∷ set) ((Decides-int_eq m n).0 parts.0) ∙ ap (λ l. n ∷ l) (same_list set other parts.1)

same_set-refl : (set : List ℤ) → is_same_set set set ≡ true
same_set-refl [] = refl
same_set-refl (m ∷ set) = rw ((Decides-int_eq m m).1 refl, same_set-refl set) refl

-- the line of a header that is keeps it
header_stays : (at : ℕ) (draft next : Draft) (line : List ℕ) (header : Header) → add_line Numbers at draft line ≡ Some next → draft.header ≡ Some header → next.header ≡ Some header
header_stays at draft next line header h there =
    line_cases Numbers (λ n. n.header ≡ Some header) at draft next line h there (λ other none. let e : None ≡ Some header = sym none ∙ there in absurd (cc)) (λ n output. there) (λ digits targets. there)

pub apart_sets : (set other : List ℤ) → (set ≡ other → ⊥) → is_same_set set other ≡ false
apart_sets set other apart = by (is_same_set set other) refl
  where
    by : (b : Bool) → is_same_set set other ≡ b → b ≡ false
    by true e = absurd (apart (same_list set other e))
    by false e = refl

pub same_sets : (set other : List ℤ) → set ≡ other → is_same_set set other ≡ true
same_sets set other same = ap (λ (l : List ℤ). is_same_set set l) (sym same) ∙ same_set-refl set

-- the digits from 0 on, so many
pub are_digits : (set : List ℤ) (digits : ℕ) → length set ≡ digits → ((k : ℕ) → k < length set → get_or set k (pos 0) ≡ pos k) → set ≡ digit_set digits
are_digits set digits count each =
    ext_get_or (pos 0) set (digit_set digits) (count ∙ sym (length-digit_set digits))
    (λ i within. each i within ∙ sym (get_or-map-range_with_len pos 0 digits i i (pos 0) (omega (arith, count, within)) (omega arith)))

pub no_digit : (set : List ℤ) (digits k : ℕ) → length set ≡ digits → k < length set → (get_or set k (pos 0) ≡ pos k → ⊥) → set ≡ digit_set digits → ⊥
no_digit set digits k count within apart same =
    apart (ap (λ (l : List ℤ). get_or l k (pos 0)) same ∙ get_or-map-range_with_len pos 0 digits k k (pos 0) (omega (arith, count, within)) (omega arith))

-- what a line of a headed file adds
pub headed_added : (may_be : Header → Bool) (at : ℕ) (draft next : Draft) (line : List ℕ) (b : Bool) → add_line Numbers at draft line ≡ Some next → is_headed may_be next.header ≡ b → cond b (Some next) None ≡ add_headed_line may_be at draft line
headed_added may_be at draft next line b h headed = ap (λ c. cond c (Some next) None) (sym headed) ∙ sym (ap (λ o. o >>= kept_headed may_be) h)

-- a header that was there may be still
pub headed_still : (may_be : Header → Bool) (at : ℕ) (draft next : Draft) (line : List ℕ) → add_line Numbers at draft line ≡ Some next → IsSome draft.header → is_headed may_be draft.header ≡ true → is_headed may_be next.header ≡ true
headed_still may_be at draft next line h some headed = by draft.header refl some headed
  where
    by : (o : Option Header) → draft.header ≡ o → IsSome o → is_headed may_be o ≡ true → is_headed may_be next.header ≡ true
    by None e some headed = search rules
    by (Some header) e some headed = ap (is_headed may_be) (header_stays at draft next line header h e) ∙ headed

headed_kept : (may_be : Header → Bool) (at : ℕ) (draft next : Draft) (line : List ℕ) → add_headed_line may_be at draft line ≡ Some next → (add_line Numbers at draft line ≡ Some next) × (is_headed may_be next.header ≡ true)
headed_kept may_be at draft next line h =
    let added = bind_some (add_line Numbers at draft line) (kept_headed may_be) next h in
    let kept = cond_some-then (is_headed may_be added.0.header) (Some added.0) next added.2 in
    let same : added.0 ≡ next = let e : Some added.0 ≡ Some next = kept.1 in cc in
    (added.1 ∙ ap Some same, subst (λ (d : Draft). is_headed may_be d.header ≡ true) same kept.0)

-- what was read has the header of a line, and one that may be
record IsHeadedDraft (may_be : Header → Bool) (draft : Draft) : Type 0 where
  may : is_headed may_be draft.header ≡ true
  line : IsHeaded draft

headed_line_kept : (may_be : Header → Bool) (at : ℕ) (draft next : Draft) (line : List ℕ) → add_headed_line may_be at draft line ≡ Some next → IsHeadedDraft may_be draft → IsHeadedDraft may_be next
headed_line_kept may_be at draft next line h is = let (added, may) = headed_kept may_be at draft next line h in record { may = may; line = line_headed Numbers at draft next line added is.line }

no_headed_draft : (may_be : Header → Bool) → IsHeadedDraft may_be no_draft
no_headed_draft may_be = record { may = refl; line = λ header none. let e : None ≡ Some header = none in absurd (cc) }

-- what a headed file lists
record IsHeadedListed (may_be : Header → Bool) (listed : Listed) : Type 0 where
  may : may_be listed.header ≡ true
  line : List ℕ
  header_found : header_of line ≡ Some listed.header
  some_state : has_states listed.header ≡ true → 0 < length listed.outputs

headed_finished : (may_be : Header → Bool) (after : ℕ) (draft : Draft) (header : Option Header) (listed : Listed) → draft.header ≡ header → finish_with after header draft ≡ Ok listed → IsHeadedDraft may_be draft → IsHeadedListed may_be listed
headed_finished may_be after draft None listed there h is = absurd (cc)
headed_finished may_be after draft (Some header) listed there h is = by (has_states header && eqb (length draft.outputs) 0) refl h
  where
    some_state : (a : Bool) → has_states header ≡ a → (a && eqb (length draft.outputs) 0) ≡ false → has_states header ≡ true → 0 < length draft.outputs
    some_state true e none states = let apart : length draft.outputs ≡ 0 → ⊥ = eqb-false (length draft.outputs) 0 none in omega (arith, apart)
    some_state false e none states = absurd (true≢false (sym states ∙ e))

    by : (b : Bool) → (has_states header && eqb (length draft.outputs) 0) ≡ b → cond b (Err after) (lists header draft) ≡ Ok listed → IsHeadedListed may_be listed
    by true e read = absurd (cc)
    by false e read =
        let placed = then_ok (placed_lines draft.numbers draft.lines) (λ lines. Ok (record { header = header; outputs = draft.outputs; lines = lines })) listed read in
        let made : Listed = record { header = header; outputs = draft.outputs; lines = placed.0 } in
        let same : made ≡ listed = let f : Ok made ≡ Ok listed = placed.2 in cc in
        let (line, header_found) = is.line header there in
        subst (IsHeadedListed may_be) same (record {
          may = sym (ap (is_headed may_be) there) ∙ is.may;
          line = line;
          header_found = header_found;
          some_state = some_state (has_states header) refl e;
        })

headed_lists : (may_be : Header → Bool) (text : List ℕ) (listed : Listed) → headed_of may_be text ≡ Ok listed → IsHeadedListed may_be listed
headed_lists may_be text listed h =
    let read = then_ok (add_lines_by (add_headed_line may_be) 1 no_draft (lines_of text)) (finish (line_after (lines_of text))) listed h in
    headed_finished may_be (line_after (lines_of text)) read.0 read.0.header listed refl read.2
    (lines_kept (IsHeadedDraft may_be) (add_headed_line may_be) (headed_line_kept may_be) 1 no_draft read.0 (lines_of text) read.1 (no_headed_draft may_be))

-- a set that is read has a member
some_inserted : (set : List ℤ) (m : ℤ) → 0 < length (with_member set m)
some_inserted [] m = omega arith
some_inserted (n ∷ set) m = by (int_cmp m n)
  where
    by : (r : Ordering) → 0 < length (match_ordering r (m ∷ n ∷ set) (n ∷ set) (n ∷ insert_key int_cmp set m))
    by Less = omega arith
    by Equal = omega arith
    by Greater = omega arith

more_members : (set members all : List ℤ) → 0 < length set → with_members set members ≡ Some all → 0 < length all
more_members set [] all some h = let same : set ≡ all = let e : Some set ≡ Some all = h in cc in omega (arith, some, ap length same)
more_members set (m ∷ members) all some h =
    let once = cond_some (has_member set m) (with_members (with_member set m) members) all h in
    more_members (with_member set m) members all (some_inserted set m) once.1

some_members : (members all : List ℤ) → 0 < length members → with_members [] members ≡ Some all → 0 < length all
some_members [] all some h = absurd (omega (arith, some))
some_members (m ∷ members) all some h =
    let once = cond_some (has_member [] m) (with_members (with_member [] m) members) all h in
    more_members (with_member [] m) members all (some_inserted [] m) once.1

each_length : {A B : Type 0} (f : A → Option B) (xs : List A) (ys : List B) → each_of f xs ≡ Some ys → length ys ≡ length xs
each_length f [] ys h = let none : ys ≡ [] = cc in ap length none
each_length f (x ∷ xs) ys h =
    let first = bind_some (f x) (λ y. each_of f xs >>= (λ zs. Some (y ∷ zs))) ys h in
    let rest = bind_some (each_of f xs) (λ zs. Some (first.0 ∷ zs)) ys first.2 in
    let is : first.0 ∷ rest.0 ≡ ys = let e : Some (first.0 ∷ rest.0) ≡ Some ys = rest.2 in cc in
    omega (arith, each_length f xs rest.0 rest.1, ap length is)

some_of_members : (bytes : List ℕ) (set : List ℤ) → members_of bytes ≡ Some set → 0 < length set
unfolding members_of
some_of_members bytes set h =
    let read = bind_some (numbers_of bytes) (with_members []) set h in
    let count = each_length member_of (slice_split (λ b. eqb b 44) bytes) read.0 read.1 in
    some_members read.0 set (omega (arith, count, split_some (λ b. eqb b 44) bytes)) read.2

some_of_open : (bytes : List ℕ) (set : List ℤ) → open_set_of bytes ≡ Some set → 0 < length set
some_of_open [] set h = absurd (cc)
some_of_open (b ∷ bytes) set h = by (λ e. some_of_open bytes set e) (eqb b 123) (is_blank b) h
  where
    by : (open_set_of bytes ≡ Some set → 0 < length set) → (brace blank : Bool) → cond brace (members_of bytes) (cond blank (open_set_of bytes) None) ≡ Some set → 0 < length set
    by rest true blank e = some_of_members bytes set e
    by rest false true e = rest e
    by rest false false e = absurd (cc)

some_between : (pieces : List (List ℕ)) (sets : List (List ℤ)) → sets_between pieces ≡ Some sets → AllByRecursion (λ (set : List ℤ). 0 < length set) sets
some_between [] sets h = absurd (cc)
some_between (rest ∷ []) sets h =
    let read = cond_some-then (list_all is_blank rest) (Some []) sets h in
    let none : [] ≡ sets = let e : Some [] ≡ Some sets = read.1 in cc in
    subst (AllByRecursion (λ (set : List ℤ). 0 < length set)) none tt
some_between (piece ∷ next ∷ pieces) sets h =
    let first = bind_some (open_set_of piece) (λ set. sets_between (next ∷ pieces) >>= (λ others. Some (set ∷ others))) sets h in
    let rest = bind_some (sets_between (next ∷ pieces)) (λ others. Some (first.0 ∷ others)) sets first.2 in
    let is : first.0 ∷ rest.0 ≡ sets = let e : Some (first.0 ∷ rest.0) ≡ Some sets = rest.2 in cc in
    subst (AllByRecursion (λ (set : List ℤ). 0 < length set)) is (some_of_open piece first.0 first.1, some_between (next ∷ pieces) rest.0 rest.1)

-- a header of sets is a line of them
line_of_sets : (line : List ℕ) (sets : List (List ℤ)) → header_of line ≡ Some (Sets sets) → sets_of line ≡ Some sets
unfolding header_of
line_of_sets line sets h =
    or_else_some (option_map Truth (truth_of line)) (or_else (option_map Systems (systems_of line)) (option_map Sets (sets_of line))) (Sets sets) (sets_of line ≡ Some sets)
    (λ e. let read = map_some (truth_of line) Truth (Sets sets) e in let other : Truth read.0 ≡ Sets sets = read.2 in absurd (cc))
    (λ rest. or_else_some (option_map Systems (systems_of line)) (option_map Sets (sets_of line)) (Sets sets) (sets_of line ≡ Some sets)
    (λ e. let read = map_some (systems_of line) Systems (Sets sets) e in let other : Systems read.0 ≡ Sets sets = read.2 in absurd (cc))
    (λ e. let read = map_some (sets_of line) Sets (Sets sets) e in let same : read.0 ≡ sets = let s : Sets read.0 ≡ Sets sets = read.2 in cc in read.1 ∙ ap Some same)
    rest)
    h

some_in_line : (line : List ℕ) (sets : List (List ℤ)) → sets_of line ≡ Some sets → AllByRecursion (λ (set : List ℤ). 0 < length set) sets
unfolding sets_of
some_in_line line sets h = some_between (slice_split (λ b. eqb b 125) line) sets h

-- a header that a language may have
language_listed : (header : Header) (outputs : List (Option ℤ)) (lines : List ListedLine) → IsHeadedListed is_language_header (record { header = header; outputs = outputs; lines = lines }) → IsLanguageListed (record { header = header; outputs = outputs; lines = lines })
language_listed (Truth value) outputs lines is = absurd (true≢false (sym is.may))
language_listed (Systems names) outputs lines is = absurd (true≢false (sym is.may))
language_listed (Sets []) outputs lines is = absurd (true≢false (sym is.may))
language_listed (Sets (set ∷ [])) outputs lines is = record {
  digits = length set;
  some_digit = (some_in_line is.line (set ∷ []) (line_of_sets is.line (set ∷ []) is.header_found)).0;
  header = ap (λ l. Sets (l ∷ [])) (same_list set (digit_set (length set)) is.may);
  some_state = is.some_state refl;
}
language_listed (Sets (set ∷ other ∷ sets)) outputs lines is = absurd (true≢false (sym is.may))

pub language_files_list_languages : LanguageFilesListLanguages
unfolding language_of
language_files_list_languages text listed h = language_listed listed.header listed.outputs listed.lines (headed_lists is_language_header text listed h)

-- and one that an adder may have
three_sets : (digits : ℕ) (sets : List (List ℤ)) → is_adder_header digits (Sets sets) ≡ true → sets ≡ digit_set digits ∷ digit_set digits ∷ digit_set digits ∷ []
three_sets digits sets h =
    let parts = and_parts (list_all (λ set. is_same_set set (digit_set digits)) sets) (eqb (length sets) 3) h in
    by sets parts.0 (eqb-true (length sets) 3 parts.1)
  where
    all_same : (some : List (List ℤ)) → list_all (λ set. is_same_set set (digit_set digits)) some ≡ true → some ≡ replicate (length some) (digit_set digits)
    all_same [] e = refl
    all_same (set ∷ some) e =
        let both = and_parts (is_same_set set (digit_set digits)) (list_all (λ s. is_same_set s (digit_set digits)) some) e in
        ap (λ s. s ∷ some) (same_list set (digit_set digits) both.0) ∙ ap (λ l. digit_set digits ∷ l) (all_same some both.1)

    by : (some : List (List ℤ)) → list_all (λ set. is_same_set set (digit_set digits)) some ≡ true → length some ≡ 3 → some ≡ digit_set digits ∷ digit_set digits ∷ digit_set digits ∷ []
    by some e count = all_same some e ∙ ap (λ n. replicate n (digit_set digits)) count

adder_listed : (digits : ℕ) (header : Header) (outputs : List (Option ℤ)) (lines : List ListedLine) → IsHeadedListed (is_adder_header digits) (record { header = header; outputs = outputs; lines = lines }) → IsAdderListed digits (record { header = header; outputs = outputs; lines = lines })
adder_listed digits (Truth value) outputs lines is = absurd (true≢false (sym is.may))
adder_listed digits (Systems names) outputs lines is = absurd (true≢false (sym is.may))
adder_listed digits (Sets sets) outputs lines is = record { header = ap Sets (three_sets digits sets is.may); some_state = is.some_state refl }

pub adder_files_list_adders : AdderFilesListAdders
unfolding adder_of
adder_files_list_adders digits text listed h = adder_listed digits listed.header listed.outputs listed.lines (headed_lists (is_adder_header digits) text listed h)
