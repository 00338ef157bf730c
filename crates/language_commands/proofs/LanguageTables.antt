-- The tables of the files of listed automata: one for each name, each with a state.
use Rattle.std.proofs.Common.{◌≢◌, ℕ, ℤ, Bool, true, false, cond, List, [], ◌∷◌, ◌++◌, inl, inr, refl, ap, subst}
use Rattle.std.specs.List.{AllByRecursion, fold, flat_map}
use Rattle.wal_outside.specs.Files.{Files}
use Rattle.dfa_reading.specs.Headers.{has_states}
use Rattle.dfa_loading.specs.Loading.{AreListedBy}
use Rattle.dfa_loading.specs.Places.{place_of}
use Rattle.dfa_loading.specs.declared.loaded.Loaded.{Loaded}
use Rattle.formula_resolve.specs.FirstMentions.{has, is_same_file, mentioned_files, with_new}
use Rattle.formula_resolve.specs.declared.file.File.{File}
use Rattle.formula_build.proofs.ReadFormulas.{same_file}
use Rattle.definitions.proofs.FileTables.{file_is_table}
use Rattle.language_steps.specs.Operands.{ArePlainTables, HasTable}
use Rattle.language_steps.specs.Tables.{AreOverSets, IsOverSets}
use Rattle.language_commands.specs.LanguageOutcomes.{language_files, language_mentions}
use Rattle.command_parts.proofs.MentionedTables.{once_each}
use Rattle.language_commands.proofs.NamedLanguages.{IsAutomaton}
use Rattle.command_parts.proofs.TableFiles.{IsListedTable, tables_listed}

-- the files that are mentioned, and each of them once
called_files : (names : List (List ℕ)) → AllByRecursion IsAutomaton (flat_map mentioned_files (language_mentions names))
called_files [] = tt
called_files (name ∷ names) = (tt, called_files names)

all_push : (P : File → Type 0) (files : List File) (file : File) → AllByRecursion P files → P file → AllByRecursion P (files ++ file ∷ [])
all_push P [] file all one = (one, tt)
all_push P (first ∷ files) file all one = (all.0, all_push P files file all.1 one)

once_all : (P : File → Type 0) (seen more : List File) → AllByRecursion P seen → AllByRecursion P more → AllByRecursion P (fold (with_new is_same_file) seen more)
once_all P seen [] all others = all
once_all P seen (file ∷ more) all others = once_all P (with_new is_same_file seen file) more (by (has is_same_file seen file)) others.1
  where
    by : (b : Bool) → AllByRecursion P (cond b seen (seen ++ file ∷ []))
    by true = all
    by false = all_push P seen file all others.0

pub files_are_automata : (names : List (List ℕ)) → AllByRecursion IsAutomaton (language_files names)
files_are_automata names = once_all IsAutomaton [] (flat_map mentioned_files (language_mentions names)) tt (called_files names)

-- a table is of the file
abbrev HasFile : List Loaded → File → Type 0
HasFile tables file = HasTable tables (place_of file).1

file_there : (files : Files) (named : List File) (tables : List Loaded) → AreListedBy files named tables → AllByRecursion (HasFile tables) named
file_there files [] [] listed = tt
file_there files [] (table ∷ tables) listed = absurd listed
file_there files (file ∷ named) [] listed = absurd listed
file_there files (file ∷ named) (table ∷ tables) listed = (inl (ap (λ (f : File). (place_of f).1) listed.0.lists.file_is), later named (file_there files named tables listed.1))
  where
    later : (others : List File) → AllByRecursion (HasFile tables) others → AllByRecursion (HasFile (table ∷ tables)) others
    later [] all = tt
    later (other ∷ others) all = (inr all.0, later others all.1)

names_there : (tables : List Loaded) (names : List (List ℕ)) → AllByRecursion (HasFile tables) (flat_map mentioned_files (language_mentions names)) → AllByRecursion (HasTable tables) names
names_there tables [] all = tt
names_there tables (name ∷ names) all = (all.0, names_there tables names all.1)

-- each name has a table
pub names_have_tables : (files : Files) (names : List (List ℕ)) (tables : List Loaded) → AreListedBy files (language_files names) tables → AllByRecursion (HasTable tables) names
names_have_tables files names tables listed =
    names_there tables names (once_each is_same_file same_file (HasFile tables) [] (flat_map mentioned_files (language_mentions names)) (file_there files (language_files names) tables listed)).1

-- there is a table where there is a name
pub some_table : (files : Files) (names : List (List ℕ)) (tables : List Loaded) → AreListedBy files (language_files names) tables → names ≢ [] → tables ≢ []
some_table files [] tables listed some = absurd (some refl)
some_table files (name ∷ names) tables listed some = λ none. subst (λ (ts : List Loaded). HasTable ts name) none (names_have_tables files (name ∷ names) tables listed).0

-- tables that files list over the same sets
plain_over : (sets : List (List ℤ)) (tables : List Loaded) → AllByRecursion IsListedTable tables → AllByRecursion (IsOverSets sets) tables → ArePlainTables sets tables
plain_over sets [] listed over = tt
plain_over sets (table ∷ tables) listed over =
    (record { over = over.0; states = listed.0.is_table (ap has_states over.0) }, plain_over sets tables listed.1 over.1)

all_over : (sets : List (List ℤ)) (tables : List Loaded) → AreOverSets sets tables → AllByRecursion (IsOverSets sets) tables
all_over sets [] over = absurd over
all_over sets (table ∷ tables) over = over

pub plain_tables : (files : Files) (names : List (List ℕ)) (tables : List Loaded) (sets : List (List ℤ)) → AreListedBy files (language_files names) tables → AreOverSets sets tables → ArePlainTables sets tables
plain_tables files names tables sets listed over = plain_over sets tables (tables_listed file_is_table files (language_files names) tables listed) (all_over sets tables over)
