-- Tables over systems that a session has under their names are readable.
use Rattle.std.proofs.Common.{◌≡◌, ℕ, suc, ◌<◌, List, [], ◌∷◌, length, get_or, None, Some, refl, sym, ◌∙◌, subst, arith}
use Rattle.std.specs.List.{AllByRecursion, AllZip}
use Rattle.wal_outside.specs.Files.{Files}
use Rattle.digit_tuple.specs.declared.direction.Direction.{Direction}
use Rattle.dfa_reading.specs.Headers.{Header, Truth, Systems, Sets}
use Rattle.dfa_loading.specs.Headers.{headers_of}
use Rattle.dfa_loading.specs.Loading.{AreListedBy}
use Rattle.dfa_loading.specs.declared.loaded.Loaded.{Loaded}
use Rattle.num_system.specs.Sealed.{SystemValue}
use Rattle.num_system.specs.Tracks.{ShareDirection}
use Rattle.formula_parse.specs.Tokens.{Name}
use Rattle.formula_parse.specs.Trees as trees
use Rattle.formula_resolve.specs.FirstMentions.{first_files, first_systems, IsOnce}
use Rattle.formula_resolve.specs.Headers.{Headers, known}
use Rattle.formula_resolve.specs.Mentions.{mentions}
use Rattle.formula_resolve.specs.Resolving.{fault_of}
use Rattle.formula_resolve.specs.declared.file.File.{File}
use Rattle.formula_resolve.specs.declared.mention.Mention.{Mention}
use Rattle.named_systems.specs.NamedSystems.{NamedSystem, system_named, HasSystemIn}
use Rattle.formula_build.specs.Resolved as resolved
use Rattle.formula_build.specs.Solutions.{direction_named}
use Rattle.system_files.specs.SystemFiles.{Custom}
use Rattle.definitions.specs.TableLaws.{FilesAreTables}
use Rattle.command_parts.specs.FormulaLoads.{HasSystems}
use Rattle.command_parts.specs.FormulaSteps.{AreMeant}
use Rattle.command_parts.specs.TableReads.{AreSystemsUnder}
use Rattle.command_parts.specs.TableReading.{IsReadable, AreReadable}
use Rattle.command_parts.proofs.MeantNames.{found_direction}
use Rattle.command_parts.proofs.TableFiles.{IsListedTable, files_apart, tables_listed}
use Rattle.command_parts.proofs.TableHeaders.{systems_in, IsKeptIn, headers_kept, file_tracks, tracks_kept, IsOfOneDirection, tables_shared_direction}
use Rattle.command_parts.proofs.MentionedTables.{OfMention, IsNotPlain, IsNotOverSets, formula_not_plain, none_over_sets, tables_systems}

-- what is under each of some names
abbrev AreUnder : List NamedSystem → List Name → List SystemValue → Type 0
AreUnder systems names tracks = AllZip (λ name s. system_named systems name ≡ Some s) names tracks

-- a system for each name
tracks_under : (systems : List NamedSystem) (names : List Name) → AllByRecursion (HasSystemIn systems) names → (tracks : List SystemValue) × AreUnder systems names tracks
tracks_under systems [] has = ([], tt)
tracks_under systems (name ∷ names) has = let rest = tracks_under systems names has.1 in (has.0.0 ∷ rest.0, (has.0.1, rest.1))

-- each system has the direction that its name says
under_directions : (custom : Custom) (systems : List NamedSystem) (names : List Name) (tracks : List SystemValue) (direction : Direction) → AreMeant custom systems → AllByRecursion (λ name. direction_named name ≡ direction) names → AreUnder systems names tracks → AllByRecursion (λ (s : SystemValue). s.direction ≡ direction) tracks
under_directions custom systems [] [] direction are directions under = tt
under_directions custom systems [] (s ∷ tracks) direction are directions under = absurd under
under_directions custom systems (name ∷ names) [] direction are directions under = absurd under
under_directions custom systems (name ∷ names) (s ∷ tracks) direction are directions under = (found_direction custom systems name s are under.0 ∙ directions.0, under_directions custom systems names tracks direction are directions.1 under.1)

-- names of one direction have that of the first
as_first : (names : List Name) (direction : Direction) → ((i : ℕ) → i < length names → direction_named (get_or names i []) ≡ direction) → AllByRecursion (λ name. direction_named name ≡ direction) names
as_first [] direction each = tt
as_first (name ∷ names) direction each = (each 0 (omega arith), as_first names direction (λ i within. each (suc i) (omega (arith, within))))

-- so systems under names of one direction have one direction
pub under_shared_direction : (custom : Custom) (systems : List NamedSystem) (names : List Name) (tracks : List SystemValue) → AreMeant custom systems → resolved.ShareDirection direction_named names → AreUnder systems names tracks → ShareDirection tracks
under_shared_direction custom systems [] [] are one under = tt
under_shared_direction custom systems [] (s ∷ tracks) are one under = absurd under
under_shared_direction custom systems (name ∷ names) [] are one under = absurd under
under_shared_direction custom systems (name ∷ names) (s ∷ tracks) are one under =
    let directions : AllByRecursion (λ n. direction_named n ≡ s.direction) (name ∷ names) = as_first (name ∷ names) s.direction (λ i within. one i 0 within (omega arith) ∙ sym (found_direction custom systems name s are under.0)) in
    under_directions custom systems (name ∷ names) (s ∷ tracks) s.direction are directions under

-- a table is readable whose systems are there
readable : (custom : Custom) (systems : List NamedSystem) (table : Loaded) → AreMeant custom systems → IsListedTable table → IsNotOverSets table → IsOfOneDirection table → AllByRecursion (HasSystemIn systems) (known (systems_in table.listed.header)) → IsReadable systems table
readable custom systems table are listed plain one has = by table.listed.header refl one has
  where
    made : (header : Header) (tracks : List SystemValue) → table.listed.header ≡ header → AreSystemsUnder systems header tracks → ShareDirection tracks → IsReadable systems table
    made header tracks is over shared_direction = record {
      lists = listed.lists;
      is_table = listed.is_table;
      is_word = listed.is_word;
      tracks = tracks;
      over = subst (λ (h : Header). AreSystemsUnder systems h tracks) (sym is) over;
      shared_direction = shared_direction;
    }

    by : (header : Header) → table.listed.header ≡ header → resolved.ShareDirection direction_named (known (systems_in header)) → AllByRecursion (HasSystemIn systems) (known (systems_in header)) → IsReadable systems table
    by (Truth value) is directions under = made (Truth value) [] is refl tt
    by (Systems names) is directions under = let tracks = tracks_under systems names under in made (Systems names) tracks.0 is tracks.1 (under_shared_direction custom systems names tracks.0 are directions tracks.1)
    by (Sets sets) is directions under = absurd (plain sets is)

pub all_readable : (custom : Custom) (systems : List NamedSystem) (tables : List Loaded) (h : Headers) → AreMeant custom systems → AllByRecursion IsListedTable tables
    → AllByRecursion (IsKeptIn h) tables → AllByRecursion IsNotOverSets tables → AllByRecursion IsOfOneDirection tables → AllByRecursion (λ (t : Loaded). AllByRecursion (HasSystemIn systems) (file_tracks h t.file)) tables → AreReadable systems tables
all_readable custom systems [] h are listed own plain one has = tt
all_readable custom systems (table ∷ tables) h are listed own plain one has =
    let under : AllByRecursion (HasSystemIn systems) (known (systems_in table.listed.header)) = subst (AllByRecursion (HasSystemIn systems)) (tracks_kept h table own.0) has.0 in
    (readable custom systems table are listed.0 plain.0 one.0 under, all_readable custom systems tables h are listed.1 own.1 plain.1 one.1 has.1)

-- the tables of what is mentioned are readable by the systems that are, where none that is called is over sets
pub mentions_readable : FilesAreTables → (systems : List NamedSystem) (files : Files) (tables : List Loaded) (ms : List Mention) → IsOnce (first_files ms) → AreListedBy files (first_files ms) tables
    → AllByRecursion (OfMention (IsNotPlain (headers_of tables))) ms → HasSystems (first_systems (headers_of tables) ms) systems → (custom : Custom) → AreMeant custom systems → AreReadable systems tables
mentions_readable law systems files tables ms once listed called has custom meant =
    let h : Headers = headers_of tables in
    let named : List File = first_files ms in
    all_readable custom systems tables h meant (tables_listed law files named tables listed)
    (headers_kept tables (files_apart files named tables once listed))
    (none_over_sets law files tables ms once listed called)
    (tables_shared_direction files named tables listed)
    (tables_systems (HasSystemIn systems) h files ms tables listed has.mentioned)

-- the tables of a formula without fault are readable by the systems that it mentions
pub tables_readable : FilesAreTables → (systems : List NamedSystem) (files : Files) (tables : List Loaded) (formula : trees.Formula) → IsOnce (first_files (mentions formula)) → AreListedBy files (first_files (mentions formula)) tables
    → fault_of (headers_of tables) formula ≡ None → HasSystems (first_systems (headers_of tables) (mentions formula)) systems → (custom : Custom) → AreMeant custom systems → AreReadable systems tables
tables_readable law systems files tables formula once listed none has custom meant = mentions_readable law systems files tables (mentions formula) once listed (formula_not_plain (headers_of tables) formula none) has custom meant
