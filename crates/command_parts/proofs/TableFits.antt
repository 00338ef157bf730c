-- What is read of tables fits the headers of the tables, and is under the names of the files.
use Rattle.std.proofs.Common.{◌≡◌, ℕ, zero, suc, ◌<◌, Bool, true, false, List, [], ◌∷◌, length, get_or, Some, if◌then◌else◌, bytes_eq, refl, sym, ap, ◌∙◌, subst, arith}
use Rattle.std.specs.List.{AllByRecursion, AllZip}
use Rattle.std.proofs.lemmas.Option.{none-some}
use Rattle.std.proofs.lemmas.Slice.Eq.{bytes_eq-Decides}
use Rattle.digit_tuple.specs.Steps.{StepLog}
use Rattle.wal_outside.specs.Files.{Files}
use Rattle.dfa_reading.specs.Headers.{Header, Truth, Systems, Sets}
use Rattle.dfa_loading.specs.Headers.{headers_of}
use Rattle.dfa_loading.specs.Loading.{AreListedBy}
use Rattle.dfa_loading.specs.declared.loaded.Loaded.{Loaded}
use Rattle.num_system.specs.Sealed.{SystemValue}
use Rattle.num_system.specs.Tracks.{absent_system}
use Rattle.number_relations.specs.Relations.{RelationValue}
use Rattle.word_output.specs.Words.{WordValue}
use Rattle.formula_parse.specs.Tokens.{Name}
use Rattle.formula_resolve.specs.Headers.{Headers, known, automaton_tracks, word_tracks}
use Rattle.formula_resolve.specs.declared.file.File.{File}
use Rattle.formula_resolve.specs.declared.file.File.TheVariants.{Automaton, Word}
use Rattle.formula_build.specs.KnownNames.{IsFileIn}
use Rattle.plan_relations.specs.Libraries.{NamedRelation, NamedWord, AreRelations, AreWords, relation_named, word_named}
use Rattle.named_systems.specs.NamedSystems.{NamedSystem, AreSealed, system_named}
use Rattle.formula_build.specs.Resolved.{plan_headers}
use Rattle.formula_build.specs.Solutions.{direction_named}
use Rattle.formula_build.specs.TrackSystems.{IsOverSystems, IsWordOverSystems, Fits}
use Rattle.system_files.specs.SystemFiles.{Custom}
use Rattle.definitions.specs.TableLaws.{IsRelationOfTable, TablesHold}
use Rattle.command_parts.specs.FormulaSteps.{AreMeant}
use Rattle.command_parts.specs.TableReads.{TableRead, ARelation, AWord, relations_in, words_in, library_with, AreSystemsUnder, IsRelationRead, IsWordRead, IsTableRead, AreTablesRead}
use Rattle.command_parts.specs.TableReading.{IsReadable, AreReadable}
use Rattle.command_parts.proofs.MeantNames.{found_direction}
use Rattle.command_parts.proofs.TableFiles.{AreApart}
use Rattle.command_parts.proofs.TableHeaders.{systems_in, IsKeptIn, headers_kept, file_tracks, tracks_kept}
use Rattle.command_parts.proofs.TableRelations.{relation_of_table}
use Rattle.command_parts.proofs.TableWords.{word_of_table}

module _ (hold : TablesHold) (systems : List NamedSystem) (sealed : AreSealed systems) where
  -- what is read of readable tables are relations and words
  pub are_relations : (tables : List Loaded) (reads : List TableRead) (old new : StepLog) → AreReadable systems tables → AreTablesRead systems old tables reads new → AreRelations (relations_in reads)
  are_relations [] [] old new readable made = tt
  are_relations [] (r ∷ reads) old new readable made = absurd made
  are_relations (table ∷ tables) [] old new readable made = absurd made
  are_relations (table ∷ tables) (ARelation r ∷ reads) old new readable (mid, first, rest) = ((relation_of_table hold systems sealed old mid table r readable.0 first).relation, are_relations tables reads mid new readable.1 rest)
  are_relations (table ∷ tables) (AWord w ∷ reads) old new readable (mid, first, rest) = are_relations tables reads mid new readable.1 rest

  pub are_words : (tables : List Loaded) (reads : List TableRead) (old new : StepLog) → AreReadable systems tables → AreTablesRead systems old tables reads new → AreWords (words_in reads)
  are_words [] [] old new readable made = tt
  are_words [] (r ∷ reads) old new readable made = absurd made
  are_words (table ∷ tables) [] old new readable made = absurd made
  are_words (table ∷ tables) (ARelation r ∷ reads) old new readable (mid, first, rest) = are_words tables reads mid new readable.1 rest
  are_words (table ∷ tables) (AWord w ∷ reads) old new readable (mid, first, rest) = (word_of_table systems sealed old mid table w readable.0 first, are_words tables reads mid new readable.1 rest)

  under_count : (names : List Name) (found : List SystemValue) → AllZip (λ name s. system_named systems name ≡ Some s) names found → length found ≡ length names
  under_count [] [] under = refl
  under_count [] (s ∷ found) under = absurd under
  under_count (name ∷ names) [] under = absurd under
  under_count (name ∷ names) (s ∷ found) under = omega (arith, under_count names found under.1)

  under_each : (names : List Name) (found : List SystemValue) (i : ℕ) → AllZip (λ name s. system_named systems name ≡ Some s) names found → i < length names → system_named systems (get_or names i []) ≡ Some (get_or found i absent_system)
  under_each [] found i under within = absurd (omega (arith, within))
  under_each (name ∷ names) [] i under within = absurd under
  under_each (name ∷ names) (s ∷ found) zero under within = under.0
  under_each (name ∷ names) (s ∷ found) (suc i) under within = under_each names found i under.1 (omega (arith, within))

  -- there is a system for each track of a header, that of its name
  record AreOver (names : List Name) (found : List SystemValue) : Type 0 where
    count : length found ≡ length names
    each : (i : ℕ) → i < length names → system_named systems (get_or names i []) ≡ Some (get_or found i absent_system)

  over_header : (header : Header) (found : List SystemValue) → AreSystemsUnder systems header found → AreOver (known (systems_in header)) found
  over_header (Truth value) found under = record { count = ap length under; each = λ i within. absurd (omega (arith, within)) }
  over_header (Systems names) found under = record { count = under_count names found under; each = λ i within. under_each names found i under within }
  over_header (Sets sets) found under = absurd under

  -- a relation has a track over each system of its table's header
  over_table : (all : List TableRead) (h : Headers) (old new : StepLog) (table : Loaded) (r : NamedRelation) → IsKeptIn h table → IsReadable systems table → IsRelationRead systems old table r new → IsOverSystems (library_with all systems) (automaton_tracks h r.name) r.relation
  over_table all h old new table r kept readable read =
      let made : IsRelationOfTable read.tracks table.listed r.relation = relation_of_table hold systems sealed old new table r readable read in
      let over : AreOver (known (systems_in table.listed.header)) read.tracks = over_header table.listed.header read.tracks read.over in
      let own : IsOverSystems (library_with all systems) (known (systems_in table.listed.header)) r.relation = record {
        count = sym made.relation.count ∙ ap length made.systems_are ∙ over.count;
        each = λ i within. over.each i within ∙ ap (λ (ss : List SystemValue). Some (get_or ss i absent_system)) (sym made.systems_are);
      } in
      subst (λ (names : List Name). IsOverSystems (library_with all systems) names r.relation) (sym (tracks_kept h table kept) ∙ ap (file_tracks h) read.file_is) own

  -- and so has a word
  word_over_table : (all : List TableRead) (h : Headers) (old new : StepLog) (table : Loaded) (w : NamedWord) → IsKeptIn h table → IsWordRead systems old table w new → IsWordOverSystems (library_with all systems) (word_tracks h w.name) w.word
  word_over_table all h old new table w kept read =
      let over : AreOver (known (systems_in table.listed.header)) read.tracks = over_header table.listed.header read.tracks read.over in
      let own : IsWordOverSystems (library_with all systems) (known (systems_in table.listed.header)) w.word = record {
        count = ap length read.done.1 ∙ over.count;
        each = λ i within. over.each i within ∙ ap (λ (ss : List SystemValue). Some (get_or ss i absent_system)) (sym read.done.1);
      } in
      subst (λ (names : List Name). IsWordOverSystems (library_with all systems) names w.word) (sym (tracks_kept h table kept) ∙ ap (file_tracks h) read.file_is) own

  over_named : (all : List TableRead) (h : Headers) (tables : List Loaded) (reads : List TableRead) (old new : StepLog) → AllByRecursion (IsKeptIn h) tables → AreReadable systems tables → AreTablesRead systems old tables reads new
      → (name : Name) (v : RelationValue) → relation_named (relations_in reads) name ≡ Some v → IsOverSystems (library_with all systems) (automaton_tracks h name) v
  over_named all h [] [] old new kept readable made name v is = absurd (none-some v is)
  over_named all h [] (r ∷ reads) old new kept readable made name v is = absurd made
  over_named all h (table ∷ tables) [] old new kept readable made name v is = absurd made
  over_named all h (table ∷ tables) (AWord w ∷ reads) old new kept readable (mid, first, rest) name v is = over_named all h tables reads mid new kept.1 readable.1 rest name v is
  over_named all h (table ∷ tables) (ARelation r ∷ reads) old new kept readable (mid, first, rest) name v is =
      by (bytes_eq r.name name) refl is (over_named all h tables reads mid new kept.1 readable.1 rest name v)
    where
      by : (b : Bool) → bytes_eq r.name name ≡ b → (if b then Some r.relation else relation_named (relations_in reads) name) ≡ Some v → (relation_named (relations_in reads) name ≡ Some v → IsOverSystems (library_with all systems) (automaton_tracks h name) v)
          → IsOverSystems (library_with all systems) (automaton_tracks h name) v
      by true same found later =
          let one : r.relation ≡ v = let e : Some r.relation ≡ Some v = found in cc in
          let P : Name → Type 0 = λ n. IsOverSystems (library_with all systems) (automaton_tracks h n) r.relation in
          subst (IsOverSystems (library_with all systems) (automaton_tracks h name)) one (subst P ((bytes_eq-Decides r.name name).0 same) (over_table all h old mid table r kept.0 readable.0 first))
      by false other found later = later found

  word_over_named : (all : List TableRead) (h : Headers) (tables : List Loaded) (reads : List TableRead) (old new : StepLog) → AllByRecursion (IsKeptIn h) tables → AreTablesRead systems old tables reads new
      → (name : Name) (v : WordValue) → word_named (words_in reads) name ≡ Some v → IsWordOverSystems (library_with all systems) (word_tracks h name) v
  word_over_named all h [] [] old new kept made name v is = absurd (none-some v is)
  word_over_named all h [] (r ∷ reads) old new kept made name v is = absurd made
  word_over_named all h (table ∷ tables) [] old new kept made name v is = absurd made
  word_over_named all h (table ∷ tables) (ARelation r ∷ reads) old new kept (mid, first, rest) name v is = word_over_named all h tables reads mid new kept.1 rest name v is
  word_over_named all h (table ∷ tables) (AWord w ∷ reads) old new kept (mid, first, rest) name v is =
      by (bytes_eq w.name name) refl is (word_over_named all h tables reads mid new kept.1 rest name v)
    where
      by : (b : Bool) → bytes_eq w.name name ≡ b → (if b then Some w.word else word_named (words_in reads) name) ≡ Some v → (word_named (words_in reads) name ≡ Some v → IsWordOverSystems (library_with all systems) (word_tracks h name) v)
          → IsWordOverSystems (library_with all systems) (word_tracks h name) v
      by true same found later =
          let one : w.word ≡ v = let e : Some w.word ≡ Some v = found in cc in
          let P : Name → Type 0 = λ n. IsWordOverSystems (library_with all systems) (word_tracks h n) w.word in
          subst (IsWordOverSystems (library_with all systems) (word_tracks h name)) one (subst P ((bytes_eq-Decides w.name name).0 same) (word_over_table all h old mid table w kept.0 first))
      by false other found later = later found

  -- what is read is over the systems of the headers, and systems have the directions of their names
  pub tables_fit : (custom : Custom) (tables : List Loaded) (reads : List TableRead) (old new : StepLog) → AreMeant custom systems → AreApart tables → AreReadable systems tables → AreTablesRead systems old tables reads new → Fits (library_with reads systems) (plan_headers (headers_of tables)) direction_named
  tables_fit custom tables reads old new are apart readable made = record {
    relations = over_named reads (headers_of tables) tables reads old new (headers_kept tables apart) readable made;
    words = word_over_named reads (headers_of tables) tables reads old new (headers_kept tables apart) made;
    directions = λ name s is. found_direction custom systems name s are is;
  }

-- something is under the name of each file
more_known : (systems : List NamedSystem) (r : TableRead) (reads : List TableRead) (file : File) → IsFileIn (library_with reads systems) file → IsFileIn (library_with (r ∷ reads) systems) file
more_known systems (ARelation r) reads (Automaton m) (v, is) = by (bytes_eq r.name m) refl
  where
    by : (b : Bool) → bytes_eq r.name m ≡ b → IsFileIn (library_with (ARelation r ∷ reads) systems) (Automaton m)
    by true same = (r.relation, ap (λ (c : Bool). if c then Some r.relation else relation_named (relations_in reads) m) same)
    by false other = (v, ap (λ (c : Bool). if c then Some r.relation else relation_named (relations_in reads) m) other ∙ is)
more_known systems (ARelation r) reads (Word m) known = known
more_known systems (AWord w) reads (Automaton m) known = known
more_known systems (AWord w) reads (Word m) (v, is) = by (bytes_eq w.name m) refl
  where
    by : (b : Bool) → bytes_eq w.name m ≡ b → IsFileIn (library_with (AWord w ∷ reads) systems) (Word m)
    by true same = (w.word, ap (λ (c : Bool). if c then Some w.word else word_named (words_in reads) m) same)
    by false other = (v, ap (λ (c : Bool). if c then Some w.word else word_named (words_in reads) m) other ∙ is)

all_more_known : (systems : List NamedSystem) (r : TableRead) (reads : List TableRead) (named : List File) → AllByRecursion (IsFileIn (library_with reads systems)) named → AllByRecursion (IsFileIn (library_with (r ∷ reads) systems)) named
all_more_known systems r reads [] all = tt
all_more_known systems r reads (file ∷ named) all = (more_known systems r reads file all.0, all_more_known systems r reads named all.1)

own_known : (systems : List NamedSystem) (old new : StepLog) (table : Loaded) (r : TableRead) (reads : List TableRead) → IsTableRead systems old table r new → IsFileIn (library_with (r ∷ reads) systems) table.file
own_known systems old new table (ARelation r) reads read =
    subst (IsFileIn (library_with (ARelation r ∷ reads) systems)) (sym read.file_is)
    (r.relation, ap (λ (c : Bool). if c then Some r.relation else relation_named (relations_in reads) r.name) ((bytes_eq-Decides r.name r.name).1 refl))
own_known systems old new table (AWord w) reads read =
    subst (IsFileIn (library_with (AWord w ∷ reads) systems)) (sym read.file_is)
    (w.word, ap (λ (c : Bool). if c then Some w.word else word_named (words_in reads) w.name) ((bytes_eq-Decides w.name w.name).1 refl))

pub files_known : (systems : List NamedSystem) (files : Files) (named : List File) (tables : List Loaded) (reads : List TableRead) (old new : StepLog) → AreListedBy files named tables → AreTablesRead systems old tables reads new → AllByRecursion (IsFileIn (library_with reads systems)) named
files_known systems files [] tables reads old new listed made = tt
files_known systems files (file ∷ named) [] reads old new listed made = absurd listed
files_known systems files (file ∷ named) (table ∷ tables) [] old new listed made = absurd made
files_known systems files (file ∷ named) (table ∷ tables) (r ∷ reads) old new listed (mid, first, rest) = (
  subst (IsFileIn (library_with (r ∷ reads) systems)) listed.0.lists.file_is (own_known systems old mid table r reads first),
  all_more_known systems r reads named (files_known systems files named tables reads mid new listed.1 rest),
)
