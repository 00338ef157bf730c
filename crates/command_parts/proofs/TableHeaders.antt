-- What the headers of loaded tables say of files.
use Rattle.std.proofs.Common.{◌≡◌, ◌≢◌, ℕ, Bool, true, false, cond, List, [], ◌∷◌, Option, None, Some, Ok, refl, sym, ap, ◌∙◌, subst, arith}
use Rattle.std.specs.List.{AllByRecursion, fold}
use Rattle.std.specs.Option.{option_map}
use Rattle.std.specs.Ordering.{nat_cmp, is_eq, eq_by_cmp}
use Rattle.std.specs.declared.cmp.Ordering.{Ordering}
use Rattle.std.specs.declared.cmp.Ordering.TheVariants.{Less, Equal, Greater}
use Rattle.std.specs.Cmp.{tied_itself}
use Rattle.std.specs.Cmp.Lexicographic.{slice_cmp, nat_list_cmp_total}
use Rattle.std.specs.FinMap as finite
use Rattle.std.specs.FinMap.{get-empty, get-insert, slice_cmp-IsAntisymmetric, nat_cmp-IsAntisymmetric}
use Rattle.wal_outside.specs.Files.{Files}
use Rattle.digit_tuple.specs.declared.direction.Direction.TheVariants.{Msd, Lsd}
use Rattle.dfa_reading.specs.Headers.{Header, Truth, Systems, Sets}
use Rattle.dfa_loading.specs.Places.{lists_of}
use Rattle.dfa_loading.specs.Headers.{with_header, with_word_header, with_file, with_table, headers_of}
use Rattle.dfa_loading.specs.Loading.{AreListedBy}
use Rattle.dfa_loading.specs.declared.loaded.Loaded.{Loaded}
use Rattle.formula_parse.specs.Tokens.{Name}
use Rattle.formula_resolve.specs.FirstMentions.{is_same_file}
use Rattle.formula_resolve.specs.Headers.{Headers, no_headers, with_automaton, with_word, known, known_systems, automaton_tracks, word_tracks}
use Rattle.formula_resolve.specs.declared.file.File.{File}
use Rattle.formula_resolve.specs.declared.file.File.TheVariants.{Automaton, Word}
use Rattle.formula_build.specs.Resolved.{ShareDirection, AreDirections}
use Rattle.formula_build.specs.Solutions.{direction_named}
use Rattle.formula_build.proofs.ReadFormulas.{same_file}
use Rattle.command_parts.proofs.HeaderLines.{listed_shared_direction}
use Rattle.command_parts.proofs.TableFiles.{HasNo, AreApart, same_itself}

-- the systems of a header; sets are none
abbrev pub systems_in : Header → Option (List Name)
systems_in (Truth value) = Some []
systems_in (Systems names) = Some names
systems_in (Sets sets) = None

-- one more header is kept under its name
with_header_is : (h : Headers) (name : Name) (header : Header) → with_header h name header ≡ with_automaton h name (systems_in header)
with_header_is h name (Truth value) = refl
with_header_is h name (Systems names) = refl
with_header_is h name (Sets sets) = refl

with_word_is : (h : Headers) (name : Name) (header : Header) → with_word_header h name header ≡ with_word h name (known (systems_in header))
with_word_is h name (Truth value) = refl
with_word_is h name (Systems names) = refl
with_word_is h name (Sets sets) = refl

abbrev known_word : Option (List Name) → Option (Option (List Name))
known_word o = option_map (λ (tracks : List Name). Some tracks) o

-- what is there for a file: the systems of its tracks, or that it is over sets
abbrev pub kept : Headers → File → Option (Option (List Name))
kept h (Automaton name) = finite.get h.automata name
kept h (Word name) = known_word (finite.get h.words name)

-- what is kept of a file with this header
abbrev pub kept_of : File → Header → Option (List Name)
kept_of (Automaton name) header = systems_in header
kept_of (Word name) header = Some (known (systems_in header))

pub ties_same : (name : Name) → eq_by_cmp (slice_cmp nat_cmp) name name ≡ true
ties_same name = ap is_eq (tied_itself nat_list_cmp_total name)

ties_apart : (name other : Name) → name ≢ other → eq_by_cmp (slice_cmp nat_cmp) name other ≡ false
ties_apart name other apart = by (slice_cmp nat_cmp name other) refl
  where
    by : (o : Ordering) → slice_cmp nat_cmp name other ≡ o → is_eq o ≡ false
    by Less e = refl
    by Equal e = absurd (apart (slice_cmp-IsAntisymmetric nat_cmp-IsAntisymmetric name other e))
    by Greater e = refl

module _ (h : Headers) (name : Name) (header : Header) where
  -- what is found after one automaton more
  automaton_found : (other : Name) → finite.get (with_header h name header).automata other ≡ cond (eq_by_cmp (slice_cmp nat_cmp) other name) (Some (systems_in header)) (finite.get h.automata other)
  automaton_found other = ap (λ (g : Headers). finite.get g.automata other) (with_header_is h name header) ∙ get-insert nat_list_cmp_total h.automata name (systems_in header) other

  -- and after one word more
  word_found : (other : Name) → finite.get (with_word_header h name header).words other ≡ cond (eq_by_cmp (slice_cmp nat_cmp) other name) (Some (known (systems_in header))) (finite.get h.words other)
  word_found other = ap (λ (g : Headers). finite.get g.words other) (with_word_is h name header) ∙ get-insert nat_list_cmp_total h.words name (known (systems_in header)) other

pub kept_same : (h : Headers) (file : File) (header : Header) → kept (with_file h file header) file ≡ Some (kept_of file header)
kept_same h (Automaton name) header = automaton_found h name header name ∙ ap (λ b. cond b (Some (systems_in header)) (finite.get h.automata name)) (ties_same name)
kept_same h (Word name) header = ap known_word (word_found h name header name ∙ ap (λ b. cond b (Some (known (systems_in header))) (finite.get h.words name)) (ties_same name))

kept_other : (h : Headers) (file : File) (header : Header) (other : File) → file ≢ other → kept (with_file h file header) other ≡ kept h other
kept_other h (Automaton name) header (Automaton other) apart =
    automaton_found h name header other ∙ ap (λ b. cond b (Some (systems_in header)) (finite.get h.automata other)) (ties_apart other name (λ same. apart (ap Automaton (sym same))))
kept_other h (Automaton name) header (Word other) apart = ap (λ (g : Headers). kept g (Word other)) (with_header_is h name header)
kept_other h (Word name) header (Automaton other) apart = ap (λ (g : Headers). kept g (Automaton other)) (with_word_is h name header)
kept_other h (Word name) header (Word other) apart =
    ap known_word (word_found h name header other ∙ ap (λ b. cond b (Some (known (systems_in header))) (finite.get h.words other)) (ties_apart other name (λ same. apart (ap Word (sym same)))))

-- tables of other files leave what is there
kept_after : (h : Headers) (tables : List Loaded) (file : File) → HasNo file tables → kept (fold with_table h tables) file ≡ kept h file
kept_after h [] file none = refl
kept_after h (table ∷ tables) file none = kept_after (with_table h table) tables file none.1 ∙ kept_other h table.file table.listed.header file none.0

-- the header of a table is found under its file
abbrev pub IsKeptIn : Headers → Loaded → Type 0
IsKeptIn h table = kept h table.file ≡ Some (kept_of table.file table.listed.header)

all_kept : (h : Headers) (tables : List Loaded) → AreApart tables → AllByRecursion (IsKeptIn (fold with_table h tables)) tables
all_kept h [] apart = tt
all_kept h (table ∷ tables) apart =
    (kept_after (with_table h table) tables table.file apart.0 ∙ kept_same h table.file table.listed.header, all_kept (with_table h table) tables apart.1)

pub headers_kept : (tables : List Loaded) → AreApart tables → AllByRecursion (IsKeptIn (headers_of tables)) tables
headers_kept tables apart = all_kept no_headers tables apart

-- the systems of the tracks of a file
abbrev pub file_tracks : Headers → File → List Name
file_tracks h (Automaton name) = automaton_tracks h name
file_tracks h (Word name) = word_tracks h name

known_tracks : (o : Option (List Name)) → known o ≡ known_systems (known_word o)
known_tracks None = refl
known_tracks (Some tracks) = refl

tracks_known : (h : Headers) (file : File) → file_tracks h file ≡ known_systems (kept h file)
tracks_known h (Automaton name) = refl
tracks_known h (Word name) = known_tracks (finite.get h.words name)

known_kept : (file : File) (header : Header) → known (kept_of file header) ≡ known (systems_in header)
known_kept (Automaton name) header = refl
known_kept (Word name) header = refl

-- those of a table are those of its header
pub tracks_kept : (h : Headers) (table : Loaded) → IsKeptIn h table → file_tracks h table.file ≡ known (systems_in table.listed.header)
tracks_kept h table is = tracks_known h table.file ∙ ap known_systems is ∙ known_kept table.file table.listed.header

-- the systems of a table have one direction
abbrev pub IsOfOneDirection : Loaded → Type 0
IsOfOneDirection table = ShareDirection direction_named (known (systems_in table.listed.header))

none_parted : ShareDirection direction_named []
none_parted = λ i j within also. absurd (omega (arith, within))

table_shared_direction : (file : File) (text : List ℕ) (table : Loaded) → lists_of file text ≡ Ok table.listed → IsOfOneDirection table
table_shared_direction file text table lists = by table.listed.header refl
  where
    by : (header : Header) → table.listed.header ≡ header → ShareDirection direction_named (known (systems_in header))
    by (Truth value) is = none_parted
    by (Systems names) is = listed_shared_direction file text table.listed names lists is
    by (Sets sets) is = none_parted

pub tables_shared_direction : (files : Files) (named : List File) (tables : List Loaded) → AreListedBy files named tables → AllByRecursion IsOfOneDirection tables
tables_shared_direction files [] [] are = tt
tables_shared_direction files [] (table ∷ tables) are = absurd are
tables_shared_direction files (file ∷ named) [] are = absurd are
tables_shared_direction files (file ∷ named) (table ∷ tables) are = (table_shared_direction file are.0.text table are.0.lists.lists, tables_shared_direction files named tables are.1)

-- so no two directions meet under a file
abbrev AreOfOneDirection : Headers → Type 0
AreOfOneDirection h = (file : File) → ShareDirection direction_named (file_tracks h file)

shared_direction_none : AreOfOneDirection no_headers
shared_direction_none (Automaton name) = subst (ShareDirection direction_named) (sym (ap known_systems (get-empty (slice_cmp nat_cmp) name))) none_parted
shared_direction_none (Word name) = subst (ShareDirection direction_named) (sym (ap known (get-empty (slice_cmp nat_cmp) name))) none_parted

shared_direction_with : (h : Headers) (file : File) (header : Header) → ShareDirection direction_named (known (systems_in header)) → AreOfOneDirection h → AreOfOneDirection (with_file h file header)
shared_direction_with h file header own before other = subst (ShareDirection direction_named) (sym (tracks_known (with_file h file header) other)) (by (is_same_file file other) refl)
  where
    IsOfSharedDirection : Option (Option (List Name)) → Type 0
    IsOfSharedDirection there = ShareDirection direction_named (known_systems there)

    here : IsOfSharedDirection (kept (with_file h file header) file)
    here = subst IsOfSharedDirection (sym (kept_same h file header)) (subst (ShareDirection direction_named) (sym (known_kept file header)) own)

    by : (b : Bool) → is_same_file file other ≡ b → IsOfSharedDirection (kept (with_file h file header) other)
    by true same = subst (λ (f : File). IsOfSharedDirection (kept (with_file h file header) f)) (same_file file other same) here
    by false apart =
        let unlike : file ≢ other = λ is. let yes : is_same_file file other ≡ true = subst (λ (f : File). is_same_file file f ≡ true) is (same_itself file) in cc in
        subst IsOfSharedDirection (sym (kept_other h file header other unlike)) (subst (ShareDirection direction_named) (tracks_known h other) (before other))

shared_direction_after : (h : Headers) (tables : List Loaded) → AllByRecursion IsOfOneDirection tables → AreOfOneDirection h → AreOfOneDirection (fold with_table h tables)
shared_direction_after h [] own before = before
shared_direction_after h (table ∷ tables) own before = shared_direction_after (with_table h table) tables own.1 (shared_direction_with h table.file table.listed.header own.0 before)

-- the headers of tables that were listed are of one direction each
pub table_directions : (files : Files) (named : List File) (tables : List Loaded) → AreListedBy files named tables → AreDirections (headers_of tables) direction_named
table_directions files named tables are = record {
  by_name = λ s t same. ap (λ b. cond b Lsd Msd) same;
  of_automaton = λ name. all (Automaton name);
  of_word = λ name. all (Word name);
}
  where
    all : AreOfOneDirection (headers_of tables)
    all = shared_direction_after no_headers tables (tables_shared_direction files named tables are) shared_direction_none
