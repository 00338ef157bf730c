-- The header of what a file lists: a line of the file is read so, and its systems have one direction.
use Rattle.std.proofs.Common.{◌≡◌, ℕ, zero, suc, ◌<◌, Bool, true, false, ◌&&◌, ◌||◌, cond, eqb, List, [], ◌∷◌, length, take, drop, get_or, Option, None, Some, Ok, Err, bytes_eq, refl, sym, ap, ◌∙◌, subst, arith}
use Rattle.std.specs.Prelude.{codes, nat_le}
use Rattle.std.specs.List.{AllByRecursion, list_all}
use Rattle.std.proofs.lemmas.Bool.{eqb-true}
use Rattle.std.proofs.lemmas.Slice.Eq.{bytes_eq-Decides}
use Rattle.dfa_reading.specs.Lines.{lines_of, line_after, parts_of, each_of}
use Rattle.dfa_reading.specs.Headers.{Header, Systems, has_states, header_of}
use Rattle.text_grammar.specs.Bytes.{is_alphanumeric}
use Rattle.text_grammar.specs.Systems.{is_system, is_direction}
use Rattle.dfa_reading.specs.Systems.{system_of, directs_as, of_one_direction, systems_of}
use Rattle.dfa_reading.specs.Listed.{Listed}
use Rattle.dfa_reading.specs.declared.outputs.Outputs.TheVariants.{Numbers, Letters}
use Rattle.dfa_reading.specs.Reading.{Draft, no_draft, add_line, add_lines_by, then_read, placed_lines, lists, finish_with, finish, relation_of}
use Rattle.dfa_reading.specs.WordFiles.{is_word, kept_word, add_word_line, word_of}
use Rattle.dfa_reading.proofs.Drafts.{then_ok}
use Rattle.dfa_reading.proofs.Options.{bind_some, cond_some-then, each_holds}
use Rattle.dfa_reading.proofs.ReadWords.{IsHeaded, line_headed, line_of_systems, lines_kept}
use Rattle.digit_tuple.specs.declared.direction.Direction.TheVariants.{Msd, Lsd}
use Rattle.formula_parse.specs.Tokens.{Name}
use Rattle.formula_resolve.specs.Directions.{is_lsd}
use Rattle.formula_resolve.specs.declared.file.File.{File}
use Rattle.formula_resolve.specs.declared.file.File.TheVariants.{Automaton, Word}
use Rattle.dfa_loading.specs.Places.{lists_of}
use Rattle.formula_build.specs.Resolved.{ShareDirection}
use Rattle.formula_build.specs.Solutions.{direction_named}

-- a line is read as this header
abbrev pub IsHeaderOfLine : Header → Type 0
IsHeaderOfLine header = (line : List ℕ) × (header_of line ≡ Some header)

lists_header : (header : Header) (draft : Draft) (listed : Listed) → lists header draft ≡ Ok listed → listed.header ≡ header
lists_header header draft listed h =
    let placed = then_ok (placed_lines draft.numbers draft.lines) (λ lines. Ok (record { header = header; outputs = draft.outputs; lines = lines })) listed h in
    let made : Listed = record { header = header; outputs = draft.outputs; lines = placed.0 } in
    let same : made ≡ listed = let e : Ok made ≡ Ok listed = placed.2 in cc in
    sym (ap (λ (l : Listed). l.header) same)

finished_header : (after : ℕ) (header : Option Header) (draft : Draft) (listed : Listed) → finish_with after header draft ≡ Ok listed → header ≡ Some listed.header
finished_header after None draft listed h = absurd (cc)
finished_header after (Some header) draft listed h = by (has_states header && eqb (length draft.outputs) 0) h
  where
    by : (b : Bool) → cond b (Err after) (lists header draft) ≡ Ok listed → Some header ≡ Some listed.header
    by true e = absurd (cc)
    by false e = ap Some (sym (lists_header header draft listed e))

-- the header of what is listed line by line is that of one of the lines, where each line that is added keeps this
header_of_line : (add : ℕ → Draft → List ℕ → Option Draft) → ((at : ℕ) (draft next : Draft) (line : List ℕ) → add at draft line ≡ Some next → IsHeaded draft → IsHeaded next) → (text : List ℕ) (listed : Listed)
    → then_read (add_lines_by add 1 no_draft (lines_of text)) (finish (line_after (lines_of text))) ≡ Ok listed → IsHeaderOfLine listed.header
header_of_line add kept text listed h =
    let read = then_ok (add_lines_by add 1 no_draft (lines_of text)) (finish (line_after (lines_of text))) listed h in
    lines_kept IsHeaded add kept 1 no_draft read.0 (lines_of text) read.1 (λ header none. let e : None ≡ Some header = none in absurd (cc)) listed.header (finished_header (line_after (lines_of text)) read.0.header read.0 listed read.2)

word_line_headed : (at : ℕ) (draft next : Draft) (line : List ℕ) → add_word_line at draft line ≡ Some next → IsHeaded draft → IsHeaded next
unfolding add_word_line
word_line_headed at draft next line h is =
    let both = bind_some (add_line Letters at draft line) kept_word next h in
    let kept = cond_some-then (is_word both.0) (Some both.0) next both.2 in
    line_headed Letters at draft next line (both.1 ∙ kept.1) is

-- so is the header of what a file lists
file_header : (file : File) (text : List ℕ) (listed : Listed) → lists_of file text ≡ Ok listed → IsHeaderOfLine listed.header
unfolding relation_of word_of
file_header (Automaton name) text listed lists = header_of_line (add_line Numbers) (line_headed Numbers) text listed lists
file_header (Word name) text listed lists = header_of_line add_word_line word_line_headed text listed lists

-- the first byte of a name says whether it begins with `lsd_`, of those that begin with a direction
abbrev begins_as_lsd : List ℕ → Bool
begins_as_lsd name = eqb (get_or name 0 0) 108

begun_so : (name begin : List ℕ) → bytes_eq (take 4 name) begin ≡ true → take 4 name ≡ begin
begun_so name begin same = (bytes_eq-Decides (take 4 name) begin).0 same

by_first : (name : List ℕ) → is_direction (take 4 name) ≡ true → is_lsd name ≡ begins_as_lsd name
by_first name is = by (bytes_eq (take 4 name) (codes "msd_")) refl is
  where
    first_of : (xs : List ℕ) → get_or xs 0 0 ≡ get_or (take 4 xs) 0 0
    first_of [] = refl
    first_of (x ∷ xs) = refl

    Says : List ℕ → Type 0
    Says begin = bytes_eq (codes "lsd_") begin ≡ eqb (get_or begin 0 0) 108

    so : (begin : List ℕ) → take 4 name ≡ begin → Says begin → is_lsd name ≡ begins_as_lsd name
    so begin same says = ap (bytes_eq (codes "lsd_")) same ∙ says ∙ ap (λ b. eqb (get_or b 0 0) 108) (sym same) ∙ ap (λ n. eqb n 108) (sym (first_of name))

    by : (b : Bool) → bytes_eq (take 4 name) (codes "msd_") ≡ b → (b || bytes_eq (take 4 name) (codes "lsd_")) ≡ true → is_lsd name ≡ begins_as_lsd name
    by true same either = so (codes "msd_") (begun_so name (codes "msd_") same) refl
    by false apart either = so (codes "lsd_") (begun_so name (codes "lsd_") either) refl

-- a system's name
abbrev DecidesDirection : List ℕ → Type 0
DecidesDirection name = is_lsd name ≡ begins_as_lsd name

and_right : (a b : Bool) → (a && b) ≡ true → b ≡ true
and_right true b h = h
and_right false b h = absurd (cc)

and_left : (a b : Bool) → (a && b) ≡ true → a ≡ true
and_left true b h = refl
and_left false b h = absurd (cc)

is_system_decides : (part : List ℕ) → is_system part ≡ true → DecidesDirection part
unfolding is_system
is_system_decides part is =
    let short = and_right (nat_le 5 (length part)) (nat_le (length part) 62 && (is_direction (take 4 part) && list_all is_alphanumeric (drop 4 part))) is in
    let both = and_right (nat_le (length part) 62) (is_direction (take 4 part) && list_all is_alphanumeric (drop 4 part)) short in
    by_first part (and_left (is_direction (take 4 part)) (list_all is_alphanumeric (drop 4 part)) both)

-- names that begin with the same byte
all_lsd : (name : List ℕ) (names : List (List ℕ)) → list_all (directs_as name) names ≡ true → AllByRecursion DecidesDirection names → AllByRecursion (λ other. is_lsd other ≡ begins_as_lsd name) names
all_lsd name [] same direct = tt
all_lsd name (other ∷ names) same direct =
    let first : get_or other 0 0 ≡ get_or name 0 0 = eqb-true (get_or other 0 0) (get_or name 0 0) (and_left (directs_as name other) (list_all (directs_as name) names) same) in
    (direct.0 ∙ ap (λ n. eqb n 108) first, all_lsd name names (and_right (directs_as name other) (list_all (directs_as name) names) same) direct.1)

-- what holds of all holds at each place
pub all_at : {X : Type 0} (P : X → Type 0) (xs : List X) (i : ℕ) (d : X) → i < length xs → AllByRecursion P xs → P (get_or xs i d)
all_at P [] i d within all = absurd (omega (arith, within))
all_at P (x ∷ xs) zero d within all = all.0
all_at P (x ∷ xs) (suc i) d within all = all_at P xs i d (omega (arith, within)) all.1

shared_direction_by : (lsd : Bool) (names : List Name) → AllByRecursion (λ name. is_lsd name ≡ lsd) names → ShareDirection direction_named names
shared_direction_by lsd names all i j within also =
    ap (λ b. cond b Lsd Msd) (all_at (λ name. is_lsd name ≡ lsd) names i [] within all ∙ sym (all_at (λ name. is_lsd name ≡ lsd) names j [] also all))

shared_direction_of : (read names : List (List ℕ)) → of_one_direction read ≡ Some names → AllByRecursion DecidesDirection read → ShareDirection direction_named names
shared_direction_of [] names h direct = absurd (cc)
shared_direction_of (name ∷ rest) names h direct =
    let is = cond_some-then (list_all (directs_as name) rest) (Some (name ∷ rest)) names h in
    let same : name ∷ rest ≡ names = let e : Some (name ∷ rest) ≡ Some names = is.1 in cc in
    subst (ShareDirection direction_named) same (shared_direction_by (begins_as_lsd name) (name ∷ rest) (direct.0, all_lsd name rest is.0 direct.1))

-- the names of a line of systems are of one direction
systems_shared_direction : (line : List ℕ) (names : List (List ℕ)) → systems_of line ≡ Some names → ShareDirection direction_named names
unfolding systems_of
systems_shared_direction line names h =
    let read = bind_some (each_of system_of (parts_of line)) of_one_direction names h in
    let direct : AllByRecursion DecidesDirection read.0 = each_holds system_of DecidesDirection (λ part name e. part_decides part name e) (parts_of line) read.0 read.1 in
    shared_direction_of read.0 names read.2 direct
  where
    part_decides : (part name : List ℕ) → system_of part ≡ Some name → DecidesDirection name
    part_decides part name e =
        let is = cond_some-then (is_system part) (Some part) name e in
        let same : part ≡ name = let s : Some part ≡ Some name = is.1 in cc in
        subst DecidesDirection same (is_system_decides part is.0)

some_of : (read names : List (List ℕ)) → of_one_direction read ≡ Some names → 0 < length names
some_of [] names h = absurd (cc)
some_of (name ∷ rest) names h =
    let is = cond_some-then (list_all (directs_as name) rest) (Some (name ∷ rest)) names h in
    let same : name ∷ rest ≡ names = let e : Some (name ∷ rest) ≡ Some names = is.1 in cc in
    subst (λ (ns : List (List ℕ)). 0 < length ns) same (omega arith)

-- and there is one
systems_some : (line : List ℕ) (names : List (List ℕ)) → systems_of line ≡ Some names → 0 < length names
unfolding systems_of
systems_some line names h = let read = bind_some (each_of system_of (parts_of line)) of_one_direction names h in some_of read.0 names read.2

-- the systems of what a file lists have one direction
pub listed_shared_direction : (file : File) (text : List ℕ) (listed : Listed) (names : List (List ℕ)) → lists_of file text ≡ Ok listed → listed.header ≡ Systems names → ShareDirection direction_named names
listed_shared_direction file text listed names lists is =
    let line = file_header file text listed lists in
    systems_shared_direction line.0 names (line_of_systems line.0 names (line.1 ∙ ap Some is))

-- and where an automaton's file has systems there is one
pub listed_some : (text : List ℕ) (listed : Listed) (names : List (List ℕ)) → relation_of text ≡ Ok listed → listed.header ≡ Systems names → 0 < length names
listed_some text listed names lists is =
    let line = file_header (Automaton []) text listed lists in
    systems_some line.0 names (line_of_systems line.0 names (line.1 ∙ ap Some is))
