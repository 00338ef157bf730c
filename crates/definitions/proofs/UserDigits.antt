-- The digits of a user's system are signed numbers of 32 bits.
use Rattle.std.proofs.Common.{◌≡◌, ℕ, zero, suc, ◌+◌, ◌<◌, ◌≤◌, ◌^◌, ◌&&◌, Bool, true, false, cond, ltb, eqb, List, [], ◌∷◌, length, get_or, ℤ, pos, Option, None, Some, Ok, Err, sym, ap, ◌∙◌, subst, arith}
use Rattle.std.specs.Prelude.{option_map}
use Rattle.std.specs.List.{AllByRecursion, All, slice_split}
use Rattle.std.specs.Ordering.{int_cmp}
use Rattle.std.proofs.lemmas.Bool.{and_parts, ltb-true}
use Rattle.std.proofs.lemmas.List.Elements.{All-nil}
use Rattle.std.proofs.lemmas.List.FromFn.{length-map-range_with_len, get_or-map-range_with_len}
use Rattle.std.proofs.lemmas.Map.Views.{All-insert_key}
use Rattle.text_grammar.specs.Bytes.{is_blank}
use Rattle.digit_tuple.specs.Systems.{digit_set, IsDigitCount}
use Rattle.dfa_reading.specs.Headers.{Header, Truth, Systems, Sets, has_member, with_member, with_members, only_integer, member_of, numbers_of, members_of, open_set_of, sets_between, sets_of, or_else, truth_of, header_of, has_states}
use Rattle.dfa_reading.specs.Lines.{◌>>=◌, parts_of, lines_of, line_after}
use Rattle.dfa_reading.specs.Listed.{Listed}
use Rattle.dfa_reading.specs.Numbers.{integer_of}
use Rattle.text_grammar.specs.Numbers.{is_number, is_short, number_of}
use Rattle.dfa_reading.specs.declared.outputs.Outputs.TheVariants.{Numbers}
use Rattle.dfa_reading.specs.Reading.{Draft, no_draft, add_line, add_lines_by, placed_lines, lists, finish_with, finish}
use Rattle.dfa_reading.specs.Systems.{systems_of}
use Rattle.dfa_reading.proofs.Drafts.{then_ok}
use Rattle.dfa_reading.proofs.Options.{bind_some, map_some, cond_some, cond_some-then, each_holds}
use Rattle.dfa_reading.proofs.ReadWords.{IsHeaded, line_headed, lines_kept, or_else_some}
use Rattle.digit_tuple.specs.declared.direction.Direction.{Direction}
use Rattle.numeration.specs.Systems.{System}
use Rattle.numeration.proofs.RankLemmas.{two_digits}
use Rattle.system_files.specs.SystemFiles.{Custom}
use Rattle.system_files.specs.UserSystems.{IsUserSystem}
use Rattle.dfa_reading.specs.SystemFiles.{is_headed, kept_headed, add_headed_line, is_language_header, language_of}

-- a number that is none from 2^31 on
abbrev pub IsSmall : ℤ → Type 0
IsSmall m = (n : ℕ) → m ≡ pos n → n < 2 ^ 31

integer_small : (bytes : List ℕ) (m : ℤ) → integer_of bytes ≡ Some m → IsSmall m
integer_small bytes m h =
    let kept = cond_some-then (is_number bytes && is_short (2 ^ 31) (number_of bytes)) (Some (number_of bytes)) m h in
    let same : number_of bytes ≡ m = let e : Some (number_of bytes) ≡ Some m = kept.1 in cc in
    let short = (and_parts (is_number bytes) (is_short (2 ^ 31) (number_of bytes)) kept.0).1 in
    λ n is. ltb-true n (2 ^ 31) (subst (λ (z : ℤ). is_short (2 ^ 31) z ≡ true) (same ∙ is) short)

only_small : (parts : List (List ℕ)) (m : ℤ) → only_integer parts ≡ Some m → IsSmall m
only_small [] m h = absurd (cc)
only_small (part ∷ []) m h = integer_small part m h
only_small (part ∷ other ∷ parts) m h = absurd (cc)

member_small : (bytes : List ℕ) (m : ℤ) → member_of bytes ≡ Some m → IsSmall m
unfolding member_of
member_small bytes m h = only_small (parts_of bytes) m h

-- so are the members of a set
with_small : (set members all : List ℤ) → with_members set members ≡ Some all → All IsSmall set → AllByRecursion IsSmall members → All IsSmall all
with_small set [] all h first others = let same : set ≡ all = let e : Some set ≡ Some all = h in cc in subst (All IsSmall) same first
with_small set (m ∷ members) all h first others =
    let rest = cond_some (has_member set m) (with_members (with_member set m) members) all h in
    with_small (with_member set m) members all rest.1 (All-insert_key int_cmp m IsSmall set first others.0) others.1

members_small : (bytes : List ℕ) (all : List ℤ) → members_of bytes ≡ Some all → All IsSmall all
unfolding members_of
members_small bytes all h =
    let read = bind_some (numbers_of bytes) (with_members []) all h in
    with_small [] read.0 all read.2 (All-nil IsSmall) (each_holds member_of IsSmall member_small (slice_split (λ b. eqb b 44) bytes) read.0 read.1)

open_small : (bytes : List ℕ) (all : List ℤ) → open_set_of bytes ≡ Some all → All IsSmall all
open_small [] all h = absurd (cc)
open_small (b ∷ bytes) all h = by (eqb b 123) (open_small bytes all) h
  where
    by : (t : Bool) → (open_set_of bytes ≡ Some all → All IsSmall all) → cond t (members_of bytes) (cond (is_blank b) (open_set_of bytes) None) ≡ Some all → All IsSmall all
    by true rest e = members_small bytes all e
    by false rest e = rest (cond_some-then (is_blank b) (open_set_of bytes) all e).1

-- and of all sets of a header
abbrev pub AreSmall : List (List ℤ) → Type 0
AreSmall sets = AllByRecursion (All IsSmall) sets

between_small : (pieces : List (List ℕ)) (sets : List (List ℤ)) → sets_between pieces ≡ Some sets → AreSmall sets
between_small [] sets h = absurd (cc)
between_small (rest ∷ []) sets h =
    let read = cond_some-then _ (Some []) sets h in
    let same : [] ≡ sets = let e : Some [] ≡ Some sets = read.1 in cc in
    subst AreSmall same tt
between_small (piece ∷ next ∷ pieces) sets h =
    let first = bind_some (open_set_of piece) (λ set. sets_between (next ∷ pieces) >>= (λ others. Some (set ∷ others))) sets h in
    let rest = bind_some (sets_between (next ∷ pieces)) (λ others. Some (first.0 ∷ others)) sets first.2 in
    let same : first.0 ∷ rest.0 ≡ sets = let e : Some (first.0 ∷ rest.0) ≡ Some sets = rest.2 in cc in
    subst AreSmall same (open_small piece first.0 first.1, between_small (next ∷ pieces) rest.0 rest.1)

line_small : (line : List ℕ) (sets : List (List ℤ)) → sets_of line ≡ Some sets → AreSmall sets
unfolding sets_of
line_small line sets h = between_small (slice_split (λ b. eqb b 125) line) sets h

pub header_small : (line : List ℕ) (sets : List (List ℤ)) → header_of line ≡ Some (Sets sets) → AreSmall sets
unfolding header_of
header_small line sets h =
    or_else_some (option_map Truth (truth_of line)) (or_else (option_map Systems (systems_of line)) (option_map Sets (sets_of line))) (Sets sets) (AreSmall sets)
    (λ e. let read = map_some (truth_of line) Truth (Sets sets) e in let other : Truth read.0 ≡ Sets sets = read.2 in absurd (cc))
    (λ rest. or_else_some (option_map Systems (systems_of line)) (option_map Sets (sets_of line)) (Sets sets) (AreSmall sets)
    (λ e. let read = map_some (systems_of line) Systems (Sets sets) e in let other : Systems read.0 ≡ Sets sets = read.2 in absurd (cc))
    (λ e. let read = map_some (sets_of line) Sets (Sets sets) e in let same : read.0 ≡ sets = let s : Sets read.0 ≡ Sets sets = read.2 in cc in subst AreSmall same (line_small line read.0 read.1))
    rest)
    h

-- the header of a language is that of a line
headed_line : (at : ℕ) (draft next : Draft) (line : List ℕ) → add_headed_line is_language_header at draft line ≡ Some next → IsHeaded draft → IsHeaded next
headed_line at draft next line h is =
    let added = bind_some (add_line Numbers at draft line) (kept_headed is_language_header) next h in
    let kept = cond_some-then (is_headed is_language_header added.0.header) (Some added.0) next added.2 in
    let same : added.0 ≡ next = let e : Some added.0 ≡ Some next = kept.1 in cc in
    subst IsHeaded same (line_headed Numbers at draft added.0 line added.1 is)

listed_header : (header : Header) (draft : Draft) (listed : Listed) → lists header draft ≡ Ok listed → listed.header ≡ header
listed_header header draft listed h =
    let found = then_ok (placed_lines draft.numbers draft.lines) (λ lines. Ok (record { header = header; outputs = draft.outputs; lines = lines })) listed h in
    let made : Listed = record { header = header; outputs = draft.outputs; lines = found.0 } in
    let is : made ≡ listed = let e : Ok made ≡ Ok listed = found.2 in cc in
    sym (ap (λ (l : Listed). l.header) is)

finished_header : (after : ℕ) (header : Option Header) (draft : Draft) (listed : Listed) → finish_with after header draft ≡ Ok listed → header ≡ Some listed.header
finished_header after None draft listed h = absurd (let no : Err after ≡ Ok listed = h in cc)
finished_header after (Some header) draft listed h = by (has_states header && eqb (length draft.outputs) 0) h
  where
    by : (t : Bool) → cond t (Err after) (lists header draft) ≡ Ok listed → Some header ≡ Some listed.header
    by true e = absurd (let no : Err after ≡ Ok listed = e in cc)
    by false e = ap Some (sym (listed_header header draft listed e))

none_headed : IsHeaded no_draft
none_headed = λ header none. let e : None ≡ Some header = none in absurd (cc)

pub language_header : (text : List ℕ) (listed : Listed) → language_of text ≡ Ok listed → (line : List ℕ) × (header_of line ≡ Some listed.header)
unfolding language_of
language_header text listed h =
    let read = then_ok (add_lines_by (add_headed_line is_language_header) 1 no_draft (lines_of text)) (finish (line_after (lines_of text))) listed h in
    let headed : IsHeaded read.0 = lines_kept IsHeaded (add_headed_line is_language_header) headed_line 1 no_draft read.0 (lines_of text) read.1 none_headed in
    headed listed.header (finished_header (line_after (lines_of text)) read.0.header read.0 listed read.2)

-- as many digits as a language has
pub language_digits : (text : List ℕ) (listed : Listed) (digits : ℕ) → language_of text ≡ Ok listed → listed.header ≡ Sets (digit_set digits ∷ []) → digits ≤ 2 ^ 31
language_digits text listed zero lists header = omega arith
language_digits text listed (suc last) lists header =
    let read = language_header text listed lists in
    let small = header_small read.0 (digit_set (suc last) ∷ []) (read.1 ∙ ap Some header) in
    let count : length (digit_set (suc last)) ≡ suc last = length-map-range_with_len pos 0 (suc last) in
    let at : get_or (digit_set (suc last)) last (pos 0) ≡ pos last = get_or-map-range_with_len pos 0 (suc last) last last (pos 0) (omega arith) (omega arith) in
    let below : last < 2 ^ 31 = small.0 last (pos 0) (omega (arith, count)) last at in
    omega (arith, below)

-- and so a user's system
pub user_digits : (custom : Custom) (name : List ℕ) (direction : Direction) (s : System) → IsUserSystem custom name direction s → IsDigitCount s.digits
user_digits custom name direction s user =
    let language = user.found.language in
    let more : 1 < s.digits = two_digits s.digits s.test user.defined.system in
    let few : user.files.digits ≤ 2 ^ 31 = language_digits language.text user.files.language user.files.digits language.lists language.header in
    record { some = omega (arith, more); small = omega (arith, few, user.defined.words.digits) }
