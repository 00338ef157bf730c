-- What is said of all mentions of a formula holds of its tables.
use Rattle.std.proofs.Common.{◌≡◌, ◌≢◌, ℕ, ℤ, Bool, true, false, ◌||◌, cond, List, [], ◌∷◌, ◌++◌, length, Option, None, Some, bytes_eq, refl, sym, ap, ◌∙◌, subst}
use Rattle.std.specs.List.{AllByRecursion, fold, flat_map}
use Rattle.std.specs.Option.{option_or, option_map}
use Rattle.std.proofs.lemmas.Slice.Eq.{bytes_eq-Decides}
use Rattle.wal_outside.specs.Files.{Files}
use Rattle.dfa_reading.specs.Headers.{Header, Systems, Sets}
use Rattle.dfa_loading.specs.Headers.{headers_of}
use Rattle.dfa_loading.specs.Loading.{AreListedBy}
use Rattle.dfa_loading.specs.declared.loaded.Loaded.{Loaded}
use Rattle.formula_parse.specs.Tokens.{Name}
use Rattle.formula_parse.specs.Trees as trees
use Rattle.formula_resolve.specs.Arity.{misuse, miscount, first_misuse}
use Rattle.formula_resolve.specs.Clashes.{first_clash}
use Rattle.formula_resolve.specs.Directions.{first_conflict}
use Rattle.formula_resolve.specs.FirstMentions.{has, with_new, is_same_file, mentioned_files, first_files, mentioned_systems, first_systems, IsOnce}
use Rattle.formula_resolve.specs.Headers.{Headers, automaton_tracks, word_tracks, is_plain, is_over_sets}
use Rattle.formula_resolve.specs.Mentions.{mentions}
use Rattle.formula_resolve.specs.Occurrences.{all_occurrences}
use Rattle.formula_resolve.specs.Resolving.{direction_fault, fault_of}
use Rattle.formula_resolve.specs.declared.fault.ResolveFault.TheVariants.{Plain}
use Rattle.formula_resolve.specs.declared.file.File.{File}
use Rattle.formula_resolve.specs.declared.file.File.TheVariants.{Automaton, Word}
use Rattle.formula_resolve.specs.declared.mention.Mention.{Mention}
use Rattle.formula_resolve.specs.declared.mention.Mention.TheVariants.{Marked, Called, Indexed}
use Rattle.definitions.specs.TableLaws.{FilesAreTables}
use Rattle.command_parts.proofs.TableFiles.{IsListedTable, files_apart, tables_listed}
use Rattle.command_parts.proofs.TableHeaders.{systems_in, kept, kept_of, IsKeptIn, headers_kept, file_tracks}

module _ {X : Type 0} (P : X → Type 0) where
  all_more : (xs : List X) (x : X) → AllByRecursion P xs → P x → AllByRecursion P (xs ++ x ∷ [])
  all_more [] x all one = (one, tt)
  all_more (y ∷ xs) x all one = (all.0, all_more xs x all.1 one)

  pub all_parts : (xs ys : List X) → AllByRecursion P (xs ++ ys) → AllByRecursion P xs × AllByRecursion P ys
  all_parts [] ys all = (tt, all)
  all_parts (x ∷ xs) ys all = let parts = all_parts xs ys all.1 in ((all.0, parts.0), parts.1)

  -- of some, each once, holds what holds of all
  once_all : (same : X → X → Bool) (seen more : List X) → AllByRecursion P seen → AllByRecursion P more → AllByRecursion P (fold (with_new same) seen more)
  once_all same seen [] all others = all
  once_all same seen (x ∷ more) all others = once_all same (with_new same seen x) more (by (has same seen x)) others.1
    where
      by : (b : Bool) → AllByRecursion P (cond b seen (seen ++ x ∷ []))
      by true = all
      by false = all_more seen x all others.0

module _ {X : Type 0} (same : X → X → Bool) (decides_same : (x y : X) → same x y ≡ true → x ≡ y) (P : X → Type 0) where
  -- what holds of all holds of one that is among them
  of_one : (seen : List X) (x : X) → has same seen x ≡ true → AllByRecursion P seen → P x
  of_one [] x there all = absurd (cc)
  of_one (first ∷ seen) x there all = by (same first x) refl there (λ rest. of_one seen x rest all.1)
    where
      by : (b : Bool) → same first x ≡ b → (b || has same seen x) ≡ true → (has same seen x ≡ true → P x) → P x
      by true is either among = subst P (decides_same first x is) all.0
      by false apart rest among = among rest

  -- what holds of some, each once, holds of all
  pub once_each : (seen more : List X) → AllByRecursion P (fold (with_new same) seen more) → AllByRecursion P seen × AllByRecursion P more
  once_each seen [] all = (all, tt)
  once_each seen (x ∷ more) all =
      let rest = once_each (with_new same seen x) more all in
      let first = by (has same seen x) refl rest.0 in
      (first.0, (first.1, rest.1))
    where
      by : (b : Bool) → has same seen x ≡ b → AllByRecursion P (cond b seen (seen ++ x ∷ [])) → AllByRecursion P seen × P x
      by true there own = (own, of_one seen x there own)
      by false none own = let parts = all_parts P seen (x ∷ []) own in (parts.0, parts.1.0)

pub all_once : (P : Name → Type 0) (seen more : List Name) → AllByRecursion P (fold (with_new bytes_eq) seen more) → AllByRecursion P seen × AllByRecursion P more
all_once P seen more all = once_each bytes_eq (λ m n. (bytes_eq-Decides m n).0) P seen more all

-- it holds of the file that is mentioned
abbrev pub OfMention : (File → Type 0) → Mention → Type 0
OfMention P (Marked s) = Unit {0}
OfMention P (Called n k) = P (Automaton n)
OfMention P (Indexed n k) = P (Word n)

mentioned_all : (P : File → Type 0) (ms : List Mention) → AllByRecursion (OfMention P) ms → AllByRecursion P (flat_map mentioned_files ms)
mentioned_all P [] all = tt
mentioned_all P (Marked s ∷ ms) all = mentioned_all P ms all.1
mentioned_all P (Called n k ∷ ms) all = (all.0, mentioned_all P ms all.1)
mentioned_all P (Indexed n k ∷ ms) all = (all.0, mentioned_all P ms all.1)

-- what holds of all mentions holds of the files
pub files_all : (P : File → Type 0) (ms : List Mention) → AllByRecursion (OfMention P) ms → AllByRecursion P (first_files ms)
files_all P ms all = once_all P is_same_file [] (flat_map mentioned_files ms) tt (mentioned_all P ms all)

-- and what holds of the files holds of their tables
pub tables_all : (P : File → Type 0) (files : Files) (named : List File) (tables : List Loaded) → AreListedBy files named tables → AllByRecursion P named → AllByRecursion (λ (t : Loaded). P t.file) tables
tables_all P files [] [] are all = tt
tables_all P files [] (table ∷ tables) are all = absurd are
tables_all P files (file ∷ named) [] are all = absurd are
tables_all P files (file ∷ named) (table ∷ tables) are all = (subst P (sym are.0.lists.file_is) all.0, tables_all P files named tables are.1 all.1)

no_first : {X : Type 0} (o other : Option X) → option_or o other ≡ None → (o ≡ None) × (other ≡ None)
no_first None other h = (refl, h)
no_first (Some x) other h = absurd (cc)

-- the file is no automaton over sets
abbrev pub IsNotPlain : Headers → File → Type 0
IsNotPlain h (Automaton n) = is_plain h n ≡ false
IsNotPlain h (Word n) = Unit {0}

called_not_plain : (h : Headers) (n : Name) (k : ℕ) → misuse h (Called n k) ≡ None → IsNotPlain h (Automaton n)
called_not_plain h n k none = by (is_plain h n) refl none
  where
    by : (b : Bool) → is_plain h n ≡ b → cond b (Some (Plain n)) (miscount n (length (automaton_tracks h n)) k) ≡ None → is_plain h n ≡ false
    by true is e = absurd (cc)
    by false is e = is

calls_not_plain : (h : Headers) (ms : List Mention) → first_misuse h ms ≡ None → AllByRecursion (OfMention (IsNotPlain h)) ms
calls_not_plain h [] none = tt
calls_not_plain h (Marked s ∷ ms) none = (tt, calls_not_plain h ms (no_first (misuse h (Marked s)) (first_misuse h ms) none).1)
calls_not_plain h (Called n k ∷ ms) none = let two = no_first (misuse h (Called n k)) (first_misuse h ms) none in (called_not_plain h n k two.0, calls_not_plain h ms two.1)
calls_not_plain h (Indexed n k ∷ ms) none = (tt, calls_not_plain h ms (no_first (misuse h (Indexed n k)) (first_misuse h ms) none).1)

-- the table is not over sets
abbrev pub IsNotOverSets : Loaded → Type 0
IsNotOverSets table = (sets : List (List ℤ)) → table.listed.header ≢ Sets sets

not_over_sets : (h : Headers) (table : Loaded) → IsListedTable table → IsKeptIn h table → IsNotPlain h table.file → IsNotOverSets table
not_over_sets h table listed is plain sets over = by table.file refl is plain
  where
    by : (file : File) → table.file ≡ file → kept h file ≡ Some (kept_of file table.listed.header) → IsNotPlain h file → ⊥
    by (Automaton n) file_is there not =
        let yes : is_plain h n ≡ true = ap is_over_sets (there ∙ ap (λ (header : Header). Some (systems_in header)) over) in
        cc
    by (Word n) file_is there not = let word = listed.is_word n file_is in let both : Systems word.names ≡ Sets sets = sym word.header ∙ over in cc

all_not_over_sets : (h : Headers) (tables : List Loaded) → AllByRecursion IsListedTable tables → AllByRecursion (IsKeptIn h) tables → AllByRecursion (λ (t : Loaded). IsNotPlain h t.file) tables → AllByRecursion IsNotOverSets tables
all_not_over_sets h [] listed own plain = tt
all_not_over_sets h (table ∷ tables) listed own plain = (not_over_sets h table listed.0 own.0 plain.0, all_not_over_sets h tables listed.1 own.1 plain.1)

-- a formula without fault calls none that is over sets
pub formula_not_plain : (h : Headers) (formula : trees.Formula) → fault_of h formula ≡ None → AllByRecursion (OfMention (IsNotPlain h)) (mentions formula)
formula_not_plain h formula none =
    calls_not_plain h (mentions formula) (no_first (first_misuse h (mentions formula)) (option_or (first_clash (all_occurrences h formula)) (option_map direction_fault (first_conflict h formula))) none).0

-- where none that is called is over sets, no table is
pub none_over_sets : FilesAreTables → (files : Files) (tables : List Loaded) (ms : List Mention) → IsOnce (first_files ms) → AreListedBy files (first_files ms) tables → AllByRecursion (OfMention (IsNotPlain (headers_of tables))) ms → AllByRecursion IsNotOverSets tables
none_over_sets law files tables ms once are called =
    let h : Headers = headers_of tables in
    let named : List File = first_files ms in
    let plain = tables_all (IsNotPlain h) files named tables are (files_all (IsNotPlain h) ms called) in
    all_not_over_sets h tables (tables_listed law files named tables are) (headers_kept tables (files_apart files named tables once are)) plain

-- what holds of all systems that are mentioned holds of those of each file
mentions_systems : (P : Name → Type 0) (h : Headers) (ms : List Mention) → AllByRecursion P (flat_map (mentioned_systems h) ms) → AllByRecursion (OfMention (λ file. AllByRecursion P (file_tracks h file))) ms
mentions_systems P h [] all = tt
mentions_systems P h (Marked s ∷ ms) all = (tt, mentions_systems P h ms all.1)
mentions_systems P h (Called n k ∷ ms) all = let parts = all_parts P (automaton_tracks h n) (flat_map (mentioned_systems h) ms) all in (parts.0, mentions_systems P h ms parts.1)
mentions_systems P h (Indexed n k ∷ ms) all = let parts = all_parts P (word_tracks h n) (flat_map (mentioned_systems h) ms) all in (parts.0, mentions_systems P h ms parts.1)

-- and of those of each table
pub tables_systems : (P : Name → Type 0) (h : Headers) (files : Files) (ms : List Mention) (tables : List Loaded) → AreListedBy files (first_files ms) tables → AllByRecursion P (first_systems h ms) → AllByRecursion (λ (t : Loaded). AllByRecursion P (file_tracks h t.file)) tables
tables_systems P h files ms tables are all =
    let every : AllByRecursion P (flat_map (mentioned_systems h) ms) = (all_once P [] (flat_map (mentioned_systems h) ms) all).1 in
    tables_all (λ file. AllByRecursion P (file_tracks h file)) files (first_files ms) tables are (files_all (λ file. AllByRecursion P (file_tracks h file)) ms (mentions_systems P h ms every))
