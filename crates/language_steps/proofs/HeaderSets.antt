-- The sets of a file's header: at least one, each with a member, whose members are numbers of 32 bits in ascending order.
use Rattle.std.proofs.Common.{◌≡◌, ℕ, ◌<◌, ◌^◌, Bool, true, false, ◌&&◌, cond, eqb, List, [], ◌∷◌, length, ℤ, pos, negsuc, Option, None, Some, Ok, Err, refl, sym, ap, ◌∙◌, subst, arith}
use Rattle.std.specs.Prelude.{FitsSigned, option_map}
use Rattle.std.specs.Int.{w32}
use Rattle.std.specs.List.{AllByRecursion, slice_split, onto_first, filter, list_all}
use Rattle.std.specs.List.Sorted.{IsStrictlySortedBy}
use Rattle.std.specs.BTreeSet.{insert_key}
use Rattle.std.specs.Ordering.{int_cmp, match_ordering, ordering_reverse}
use Rattle.std.specs.declared.cmp.Ordering.{Ordering}
use Rattle.std.specs.declared.cmp.Ordering.TheVariants.{Less, Equal, Greater}
use Rattle.std.proofs.lemmas.Bool.{and_parts}
use Rattle.std.proofs.lemmas.Bool.Decides.{nat_tests}
use Rattle.std.proofs.lemmas.Cmp.{int_cmp_total}
use Rattle.std.proofs.lemmas.List.Elements.{All-from_recursion}
use Rattle.text_grammar.specs.Bytes.{is_blank}
use Rattle.text_grammar.specs.Numbers.{is_number, is_short, number_of}
use Rattle.dfa_reading.specs.Entries.{Entry, State, Line, entry_of}
use Rattle.dfa_reading.specs.Headers.{Header, Truth, Systems, Sets, has_states, digits_in, has_member, with_member, with_members, only_integer, member_of, numbers_of, members_of, open_set_of, sets_between, sets_of, truth_of, or_else, header_of}
use Rattle.dfa_reading.specs.Lines.{◌>>=◌, has_bytes, is_passed, is_passed_by, lines_of, line_after, parts_of, each_of}
use Rattle.dfa_reading.specs.Listed.{Listed}
use Rattle.dfa_reading.specs.Numbers.{integer_of}
use Rattle.dfa_reading.specs.Reading.{Draft, no_draft, with_header, with_state, with_line, has_number, add_entry, add_to, add_line, add_lines, lists, finish_with, finish, placed_lines, relation_of}
use Rattle.dfa_reading.specs.Systems.{systems_of}
use Rattle.dfa_reading.specs.declared.outputs.Outputs.TheVariants.{Numbers}
use Rattle.dfa_reading.proofs.Drafts.{then_ok}
use Rattle.dfa_reading.proofs.Options.{bind_some, map_some, cond_some, cond_some-then, each_holds}
use Rattle.dfa_reading.proofs.ReadHeaders.{IsAscending-from_sorted}
use Rattle.dfa_reading.proofs.ReadWords.{lines_kept, or_else_some}
use Rattle.dfa_reading.proofs.Splits.{split_some}
use Rattle.dfa_text.specs.Meaning.{AreTrackSets, IsTrackSet}

-- numbers are of 32 bits
short_fits : (z : ℤ) → is_short (2 ^ 31) z ≡ true → FitsSigned w32 z
short_fits (pos n) h = let below : n < 2 ^ 31 = grind (arith, nat_tests) in record { sfits = below }
short_fits (negsuc n) h = let below : n < 2 ^ 31 = grind (arith, nat_tests) in record { sfits = below }

integer_fits : (bytes : List ℕ) (m : ℤ) → integer_of bytes ≡ Some m → FitsSigned w32 m
integer_fits bytes m h =
    let kept = cond_some-then (is_number bytes && is_short (2 ^ 31) (number_of bytes)) (Some (number_of bytes)) m h in
    let same : number_of bytes ≡ m = let e : Some (number_of bytes) ≡ Some m = kept.1 in cc in
    let short = (and_parts (is_number bytes) (is_short (2 ^ 31) (number_of bytes)) kept.0).1 in
    short_fits m (subst (λ (z : ℤ). is_short (2 ^ 31) z ≡ true) same short)

only_fits : (parts : List (List ℕ)) (m : ℤ) → only_integer parts ≡ Some m → FitsSigned w32 m
only_fits [] m h = absurd (cc)
only_fits (part ∷ []) m h = integer_fits part m h
only_fits (part ∷ other ∷ parts) m h = absurd (cc)

member_fits : (bytes : List ℕ) (m : ℤ) → member_of bytes ≡ Some m → FitsSigned w32 m
unfolding member_of
member_fits bytes m h = only_fits (parts_of bytes) m h

-- members in order, each of 32 bits
record IsGathered (set : List ℤ) : Type 0 where
  sorted : IsStrictlySortedBy int_cmp set
  fits : AllByRecursion (λ member. FitsSigned w32 member) set

all_inserted : (P : ℤ → Type 0) (set : List ℤ) (m : ℤ) → P m → AllByRecursion P set → AllByRecursion P (insert_key int_cmp set m)
all_inserted P [] m here all = (here, tt)
all_inserted P (n ∷ set) m here all = elim (int_cmp m n) as (λ o. AllByRecursion P (match_ordering o (m ∷ n ∷ set) (n ∷ set) (n ∷ insert_key int_cmp set m)))
    [ Less ↦ (here, all) | Equal ↦ all | Greater ↦ (all.0, all_inserted P set m here all.1) ]

all_above : (m n : ℤ) (set : List ℤ) → int_cmp m n ≡ Less → AllByRecursion (λ y. int_cmp n y ≡ Less) set → AllByRecursion (λ y. int_cmp m y ≡ Less) set
all_above m n [] low all = tt
all_above m n (k ∷ set) low all = (int_cmp_total.trans m n k low all.0, all_above m n set low all.1)

sorted_inserted : (set : List ℤ) (m : ℤ) → IsStrictlySortedBy int_cmp set → IsStrictlySortedBy int_cmp (insert_key int_cmp set m)
unfolding IsStrictlySortedBy
sorted_inserted [] m sorted = (tt, tt)
sorted_inserted (n ∷ set) m sorted = by_order (sorted_inserted set m sorted.1) (int_cmp m n) refl
  where
    by_order : IsStrictlySortedBy int_cmp (insert_key int_cmp set m) → (o : Ordering) → int_cmp m n ≡ o → IsStrictlySortedBy int_cmp (match_ordering o (m ∷ n ∷ set) (n ∷ set) (n ∷ insert_key int_cmp set m))
    by_order more Less e = ((e, all_above m n set e sorted.0), sorted)
    by_order more Equal e = sorted
    by_order more Greater e = (all_inserted (λ y. int_cmp n y ≡ Less) set m (int_cmp_total.antisymm n m ∙ ap ordering_reverse e) sorted.0, more)

none_gathered : IsGathered []
unfolding IsStrictlySortedBy
none_gathered = record { sorted = tt; fits = tt }

with_gathered : (set members all : List ℤ) → with_members set members ≡ Some all → IsGathered set → AllByRecursion (λ member. FitsSigned w32 member) members → IsGathered all
with_gathered set [] all h is others = let same : set ≡ all = let e : Some set ≡ Some all = h in cc in subst IsGathered same is
with_gathered set (m ∷ members) all h is others =
    let rest = cond_some (has_member set m) (with_members (with_member set m) members) all h in
    with_gathered (with_member set m) members all rest.1 (record { sorted = sorted_inserted set m is.sorted; fits = all_inserted (λ member. FitsSigned w32 member) set m others.0 is.fits }) others.1

-- and there is one
some_inserted : (set : List ℤ) (m : ℤ) → 0 < length (with_member set m)
some_inserted [] m = omega arith
some_inserted (n ∷ set) m = by (int_cmp m n)
  where
    by : (o : Ordering) → 0 < length (match_ordering o (m ∷ n ∷ set) (n ∷ set) (n ∷ insert_key int_cmp set m))
    by Less = omega arith
    by Equal = omega arith
    by Greater = omega arith

more_members : (set members all : List ℤ) → 0 < length set → with_members set members ≡ Some all → 0 < length all
more_members set [] all some h = let same : set ≡ all = let e : Some set ≡ Some all = h in cc in omega (arith, some, ap length same)
more_members set (m ∷ members) all some h =
    let once = cond_some (has_member set m) (with_members (with_member set m) members) all h in
    more_members (with_member set m) members all (some_inserted set m) once.1

some_members : (members all : List ℤ) → 0 < length members → with_members [] members ≡ Some all → 0 < length all
some_members [] all some h = absurd (omega (arith, some))
some_members (m ∷ members) all some h =
    let once = cond_some (has_member [] m) (with_members (with_member [] m) members) all h in
    more_members (with_member [] m) members all (some_inserted [] m) once.1

each_length : {A B : Type 0} (f : A → Option B) (xs : List A) (ys : List B) → each_of f xs ≡ Some ys → length ys ≡ length xs
each_length f [] ys h = let none : ys ≡ [] = cc in ap length none
each_length f (x ∷ xs) ys h =
    let first = bind_some (f x) (λ y. each_of f xs >>= (λ zs. Some (y ∷ zs))) ys h in
    let rest = bind_some (each_of f xs) (λ zs. Some (first.0 ∷ zs)) ys first.2 in
    let is : first.0 ∷ rest.0 ≡ ys = let e : Some (first.0 ∷ rest.0) ≡ Some ys = rest.2 in cc in
    omega (arith, each_length f xs rest.0 rest.1, ap length is)

-- the set of a piece of a line
set_of_members : (bytes : List ℕ) (set : List ℤ) → members_of bytes ≡ Some set → IsTrackSet set
unfolding members_of
set_of_members bytes set h =
    let read = bind_some (numbers_of bytes) (with_members []) set h in
    let count = each_length member_of (slice_split (λ b. eqb b 44) bytes) read.0 read.1 in
    let is : IsGathered set = with_gathered [] read.0 set read.2 none_gathered (each_holds member_of (λ member. FitsSigned w32 member) member_fits (slice_split (λ b. eqb b 44) bytes) read.0 read.1) in
    record {
      some = some_members read.0 set (omega (arith, count, split_some (λ b. eqb b 44) bytes)) read.2;
      ascending = IsAscending-from_sorted set is.sorted;
      fits = All-from_recursion (λ member. FitsSigned w32 member) set is.fits;
    }

set_of_open : (bytes : List ℕ) (set : List ℤ) → open_set_of bytes ≡ Some set → IsTrackSet set
set_of_open [] set h = absurd (cc)
set_of_open (b ∷ bytes) set h = by (λ e. set_of_open bytes set e) (eqb b 123) (is_blank b) h
  where
    by : (open_set_of bytes ≡ Some set → IsTrackSet set) → (brace blank : Bool) → cond brace (members_of bytes) (cond blank (open_set_of bytes) None) ≡ Some set → IsTrackSet set
    by rest true blank e = set_of_members bytes set e
    by rest false true e = rest e
    by rest false false e = absurd (cc)

sets_of_pieces : (pieces : List (List ℕ)) (sets : List (List ℤ)) → sets_between pieces ≡ Some sets → AllByRecursion IsTrackSet sets
sets_of_pieces [] sets h = absurd (cc)
sets_of_pieces (rest ∷ []) sets h =
    let read = cond_some-then (list_all is_blank rest) (Some []) sets h in
    let none : [] ≡ sets = let e : Some [] ≡ Some sets = read.1 in cc in
    subst (AllByRecursion IsTrackSet) none tt
sets_of_pieces (piece ∷ next ∷ pieces) sets h =
    let first = bind_some (open_set_of piece) (λ set. sets_between (next ∷ pieces) >>= (λ others. Some (set ∷ others))) sets h in
    let rest = bind_some (sets_between (next ∷ pieces)) (λ others. Some (first.0 ∷ others)) sets first.2 in
    let is : first.0 ∷ rest.0 ≡ sets = let e : Some (first.0 ∷ rest.0) ≡ Some sets = rest.2 in cc in
    subst (AllByRecursion IsTrackSet) is (set_of_open piece first.0 first.1, sets_of_pieces (next ∷ pieces) rest.0 rest.1)

-- a list that is not divided is its one part
no_two : (x : ℕ) (parts : List (List ℕ)) (rest : List ℕ) → onto_first x parts ≡ rest ∷ [] → 0 < length parts → (others : List ℕ) × (parts ≡ others ∷ []) × (rest ≡ x ∷ others)
no_two x [] rest h some = absurd (omega (arith, some))
no_two x (part ∷ []) rest h some = let same : (x ∷ part) ≡ rest = cc in (part, refl, sym same)
no_two x (part ∷ more ∷ parts) rest h some = let no : (more ∷ parts) ≡ [] = cc in absurd (cc)

undivided : (p : ℕ → Bool) (xs rest : List ℕ) → slice_split p xs ≡ rest ∷ [] → rest ≡ xs
undivided p [] rest h = let same : [] ≡ rest = cc in sym same
undivided p (x ∷ xs) rest h = by (p x) h (λ others e. undivided p xs others e)
  where
    by : (b : Bool) → cond b ([] ∷ slice_split p xs) (onto_first x (slice_split p xs)) ≡ rest ∷ [] → ((others : List ℕ) → slice_split p xs ≡ others ∷ [] → others ≡ xs) → rest ≡ x ∷ xs
    by true e later = let none : slice_split p xs ≡ [] = cc in absurd (omega (arith, split_some p xs, ap length none))
    by false e later = let cut = no_two x (slice_split p xs) rest e (split_some p xs) in cut.2 ∙ ap (λ (ys : List ℕ). x ∷ ys) (later cut.0 cut.1)

-- a line of blanks has no part
blank_parts : (line : List ℕ) → list_all is_blank line ≡ true → parts_of line ≡ []
blank_parts [] all = refl
blank_parts (b ∷ line) all =
    let both = and_parts (is_blank b) (list_all is_blank line) all in
    ap (λ (t : Bool). filter has_bytes (cond t ([] ∷ slice_split is_blank line) (onto_first b (slice_split is_blank line)))) both.0 ∙ blank_parts line both.1

blank_passed : (line : List ℕ) → list_all is_blank line ≡ true → is_passed line ≡ true
unfolding is_passed
blank_passed line all = ap is_passed_by (blank_parts line all)

-- a line that is no blank has a set, where it has sets
some_set : (line : List ℕ) (sets : List (List ℤ)) → sets_of line ≡ Some sets → is_passed line ≡ false → 0 < length sets
unfolding sets_of
some_set line sets h kept = by (slice_split (λ b. eqb b 125) line) refl h
  where
    by : (pieces : List (List ℕ)) → slice_split (λ b. eqb b 125) line ≡ pieces → sets_between pieces ≡ Some sets → 0 < length sets
    by [] is e = absurd (cc)
    by (rest ∷ []) is e =
        let read = cond_some-then (list_all is_blank rest) (Some []) sets e in
        let blank : list_all is_blank line ≡ true = subst (λ (l : List ℕ). list_all is_blank l ≡ true) (undivided (λ b. eqb b 125) line rest is) read.0 in
        absurd (let no : true ≡ false = sym (blank_passed line blank) ∙ kept in cc)
    by (piece ∷ next ∷ pieces) is e =
        let first = bind_some (open_set_of piece) (λ set. sets_between (next ∷ pieces) >>= (λ others. Some (set ∷ others))) sets e in
        let rest = bind_some (sets_between (next ∷ pieces)) (λ others. Some (first.0 ∷ others)) sets first.2 in
        let are : first.0 ∷ rest.0 ≡ sets = let f : Some (first.0 ∷ rest.0) ≡ Some sets = rest.2 in cc in
        omega (arith, ap length are)

track_sets : (line : List ℕ) (sets : List (List ℤ)) → sets_of line ≡ Some sets → is_passed line ≡ false → AreTrackSets sets
unfolding sets_of
track_sets line sets h kept = record { some = some_set line sets h kept; each = All-from_recursion IsTrackSet sets (sets_of_pieces (slice_split (λ b. eqb b 125) line) sets h) }

-- a header of sets is a line of them
line_of_sets : (line : List ℕ) (sets : List (List ℤ)) → header_of line ≡ Some (Sets sets) → sets_of line ≡ Some sets
unfolding header_of
line_of_sets line sets h =
    or_else_some (option_map Truth (truth_of line)) (or_else (option_map Systems (systems_of line)) (option_map Sets (sets_of line))) (Sets sets) (sets_of line ≡ Some sets)
    (λ e. let read = map_some (truth_of line) Truth (Sets sets) e in let other : Truth read.0 ≡ Sets sets = read.2 in absurd (cc))
    (λ rest. or_else_some (option_map Systems (systems_of line)) (option_map Sets (sets_of line)) (Sets sets) (sets_of line ≡ Some sets)
    (λ e. let read = map_some (systems_of line) Systems (Sets sets) e in let other : Systems read.0 ≡ Sets sets = read.2 in absurd (cc))
    (λ e. let read = map_some (sets_of line) Sets (Sets sets) e in let same : read.0 ≡ sets = let s : Sets read.0 ≡ Sets sets = read.2 in cc in read.1 ∙ ap Some same)
    rest)
    h

-- the header that was read is that of a line that is not passed over
abbrev IsHeadedBy : Draft → Type 0
IsHeadedBy draft = (header : Header) → draft.header ≡ Some header → (line : List ℕ) × (header_of line ≡ Some header) × (is_passed line ≡ false)

entry_headed : (at : ℕ) (draft next : Draft) (entry : Entry) → add_entry at draft entry ≡ Some next → IsHeadedBy draft → IsHeadedBy next
entry_headed at draft next (State n output) h is =
    let added = cond_some (has_number draft.numbers n) (Some (with_state draft n output)) next h in
    let same : with_state draft n output ≡ next = let e : Some (with_state draft n output) ≡ Some next = added.1 in cc in
    subst IsHeadedBy same is
entry_headed at draft next (Line digits targets) h is =
    let added = cond_some (eqb (length draft.outputs) 0) (Some (with_line at draft digits targets)) next h in
    let same : with_line at draft digits targets ≡ next = let e : Some (with_line at draft digits targets) ≡ Some next = added.1 in cc in
    subst IsHeadedBy same is

to_headed : (at : ℕ) (draft next : Draft) (line : List ℕ) (header : Option Header) → is_passed line ≡ false → add_to Numbers at draft line header ≡ Some next → IsHeadedBy draft → IsHeadedBy next
to_headed at draft next line None kept h is =
    let read = map_some (header_of line) (with_header draft) next h in
    let first : IsHeadedBy (with_header draft read.0) = λ other there. let same : read.0 ≡ other = let e : Some read.0 ≡ Some other = there in cc in (line, read.1 ∙ ap Some same, kept) in
    subst IsHeadedBy read.2 first
to_headed at draft next line (Some header) kept h is =
    let below = cond_some-then (has_states header) (entry_of Numbers (digits_in header) line >>= add_entry at draft) next h in
    let read = bind_some (entry_of Numbers (digits_in header) line) (add_entry at draft) next below.1 in
    entry_headed at draft next read.0 read.2 is

line_headed : (at : ℕ) (draft next : Draft) (line : List ℕ) → add_line Numbers at draft line ≡ Some next → IsHeadedBy draft → IsHeadedBy next
unfolding add_line
line_headed at draft next line h is = by (is_passed line) refl h
  where
    by : (b : Bool) → is_passed line ≡ b → cond b (Some draft) (add_to Numbers at draft line draft.header) ≡ Some next → IsHeadedBy next
    by true kept e = let same : draft ≡ next = let f : Some draft ≡ Some next = e in cc in subst IsHeadedBy same is
    by false kept e = to_headed at draft next line draft.header kept e is

listed_header : (header : Header) (draft : Draft) (listed : Listed) → lists header draft ≡ Ok listed → listed.header ≡ header
listed_header header draft listed h =
    let found = then_ok (placed_lines draft.numbers draft.lines) (λ lines. Ok (record { header = header; outputs = draft.outputs; lines = lines })) listed h in
    let made : Listed = record { header = header; outputs = draft.outputs; lines = found.0 } in
    let is : made ≡ listed = let e : Ok made ≡ Ok listed = found.2 in cc in
    sym (ap (λ (l : Listed). l.header) is)

finished_header : (after : ℕ) (header : Option Header) (draft : Draft) (listed : Listed) → finish_with after header draft ≡ Ok listed → header ≡ Some listed.header
finished_header after None draft listed h = absurd (let no : Err after ≡ Ok listed = h in cc)
finished_header after (Some header) draft listed h = by (has_states header && eqb (length draft.outputs) 0) h
  where
    by : (t : Bool) → cond t (Err after) (lists header draft) ≡ Ok listed → Some header ≡ Some listed.header
    by true e = absurd (let no : Err after ≡ Ok listed = e in cc)
    by false e = ap Some (sym (listed_header header draft listed e))

none_headed : IsHeadedBy no_draft
none_headed = λ header none. let e : None ≡ Some header = none in absurd (cc)

-- of what a file lists over sets
pub file_sets : (text : List ℕ) (listed : Listed) (sets : List (List ℤ)) → relation_of text ≡ Ok listed → listed.header ≡ Sets sets → AreTrackSets sets
unfolding relation_of
file_sets text listed sets h header =
    let read = then_ok (add_lines Numbers 1 no_draft (lines_of text)) (finish (line_after (lines_of text))) listed h in
    let headed : IsHeadedBy read.0 = lines_kept IsHeadedBy (add_line Numbers) line_headed 1 no_draft read.0 (lines_of text) read.1 none_headed in
    let by = headed listed.header (finished_header (line_after (lines_of text)) read.0.header read.0 listed read.2) in
    track_sets by.0 sets (line_of_sets by.0 sets (by.1 ∙ ap Some header)) by.2
