-- What is known of listed automata whose files are loaded: their tables can be read, a relation is under each name, and it is over the
-- systems of its header.
use Rattle.std.proofs.Common.{◌≡◌, ℕ, suc, ◌<◌, Bool, true, false, if◌then◌else◌, List, [], ◌∷◌, length, get_or, None, Some, refl, ◌∙◌, subst, arith, bytes_eq}
use Rattle.std.specs.List.{AllByRecursion, flat_map}
use Rattle.std.proofs.lemmas.Option.{none-some}
use Rattle.wal_outside.specs.Files.{Files}
use Rattle.digit_tuple.specs.Steps.{StepLog}
use Rattle.command_head.specs.Heads.{ValuedName}
use Rattle.dfa_loading.specs.Headers.{headers_of}
use Rattle.dfa_loading.specs.Loading.{AreListedBy}
use Rattle.dfa_loading.specs.declared.loaded.Loaded.{Loaded}
use Rattle.formula_parse.specs.Tokens.{Name}
use Rattle.formula_resolve.specs.FirstMentions.{is_same_file, mentioned_files}
use Rattle.formula_resolve.specs.Headers.{Headers, automaton_tracks, is_plain}
use Rattle.formula_resolve.proofs.FirstLemmas.{first_once}
use Rattle.formula_build.specs.KnownNames.{IsFileIn}
use Rattle.plan_relations.specs.Libraries.{NamedRelation, AreRelations, relation_named}
use Rattle.named_systems.specs.NamedSystems.{NamedSystem, AreSealed, system_named}
use Rattle.formula_build.specs.Resolved.{plan_headers}
use Rattle.formula_build.specs.Solutions.{direction_named}
use Rattle.formula_build.specs.TrackSystems.{IsOverSystems, Fits}
use Rattle.formula_build.proofs.ReadFormulas.{same_file}
use Rattle.num_system.specs.Sealed.{SystemValue}
use Rattle.num_system.specs.Tracks.{absent_system}
use Rattle.number_relations.specs.Relations.{RelationValue, IsRelation}
use Rattle.definitions.proofs.FileTables.{file_is_table}
use Rattle.definitions.proofs.TableRelations.{table_holds}
use Rattle.system_files.specs.SystemFiles.{Custom}
use Rattle.word_commands.specs.CombineMakes.{HasRelations}
use Rattle.word_commands.specs.CombineOutcomes.{listed_names, listed_mentions, listed_files, listed_systems, first_plain}
use Rattle.command_parts.specs.FormulaLoads.{HasSystems}
use Rattle.command_parts.specs.FormulaSteps.{AreMeant}
use Rattle.command_parts.specs.TableReads.{TableRead, AreTablesRead, relations_in, library_with}
use Rattle.command_parts.specs.TableReading.{AreReadable}
use Rattle.command_parts.proofs.MentionedTables.{OfMention, IsNotPlain, once_each}
use Rattle.command_parts.proofs.ReadableTables.{mentions_readable}
use Rattle.command_parts.proofs.TableFiles.{files_apart}
use Rattle.command_parts.proofs.TableFits.{are_relations, files_known, tables_fit}
use Rattle.command_parts.proofs.TableRelations.{AreUnder}

-- where no listed automaton is over sets, none that is called is
plain_called : (h : Headers) (automata : List ValuedName) → first_plain h (listed_names automata) ≡ None → AllByRecursion (OfMention (IsNotPlain h)) (listed_mentions automata)
plain_called h [] none = tt
plain_called h (v ∷ automata) none = by (is_plain h v.name) refl none (plain_called h automata)
  where
    by : (b : Bool) → is_plain h v.name ≡ b → (if b then Some v.name else first_plain h (listed_names automata)) ≡ None → (first_plain h (listed_names automata) ≡ None → AllByRecursion (OfMention (IsNotPlain h)) (listed_mentions automata))
        → AllByRecursion (OfMention (IsNotPlain h)) (listed_mentions (v ∷ automata))
    by true is none later = absurd (cc)
    by false is none later = (is, later none)

-- a relation is under each listed name, where each file has a meaning
named_relations : (systems : List NamedSystem) (reads : List TableRead) (automata : List ValuedName) → AllByRecursion (IsFileIn (library_with reads systems)) (flat_map mentioned_files (listed_mentions automata)) → HasRelations (relations_in reads) automata
named_relations systems reads [] all = tt
named_relations systems reads (v ∷ automata) all = (all.0, named_relations systems reads automata all.1)

found_relation : (relations : List NamedRelation) (name : List ℕ) (r : RelationValue) → AreRelations relations → relation_named relations name ≡ Some r → IsRelation r
found_relation [] name r are found = absurd (none-some r found)
found_relation (x ∷ relations) name r are found = by (bytes_eq x.name name) (λ (there : relation_named relations name ≡ Some r). found_relation relations name r are.1 there) found
  where
    by : (b : Bool) → (relation_named relations name ≡ Some r → IsRelation r) → (if b then Some x.relation else relation_named relations name) ≡ Some r → IsRelation r
    by true rest is = let same : x.relation ≡ r = cc in subst IsRelation same are.0
    by false rest is = rest is

-- from what is under each of some names, by its place
pub under_names : (systems : List NamedSystem) (names : List Name) (found : List SystemValue) → length found ≡ length names → ((i : ℕ) → i < length names → system_named systems (get_or names i []) ≡ Some (get_or found i absent_system)) → AreUnder systems names found
under_names systems [] [] count each = tt
under_names systems [] (s ∷ found) count each = absurd (omega (arith, count))
under_names systems (name ∷ names) [] count each = absurd (omega (arith, count))
under_names systems (name ∷ names) (s ∷ found) count each = (each 0 (omega arith), under_names systems names found (omega (arith, count)) (λ i within. each (suc i) (omega (arith, within))))

module _ (automata : List ValuedName) (tables : List Loaded) (files : Files) (listed : AreListedBy files (listed_files automata) tables) where
  module _ (systems : List NamedSystem) (sealed : AreSealed systems) (custom : Custom) (meant : AreMeant custom systems) (plain : first_plain (headers_of tables) (listed_names automata) ≡ None) (has : HasSystems (listed_systems tables automata) systems) where
    -- the tables can be read
    pub listed_readable : AreReadable systems tables
    listed_readable = mentions_readable file_is_table systems files tables (listed_mentions automata) (first_once (listed_mentions automata)) listed (plain_called (headers_of tables) automata plain) has custom meant

    module _ (reads : List TableRead) (old new : StepLog) (made : AreTablesRead systems old tables reads new) where
      pub listed_relations : HasRelations (relations_in reads) automata
      listed_relations =
          named_relations systems reads automata
          (once_each is_same_file same_file (IsFileIn (library_with reads systems)) [] (flat_map mentioned_files (listed_mentions automata)) (files_known systems files (listed_files automata) tables reads old new listed made)).1

      fits : Fits (library_with reads systems) (plan_headers (headers_of tables)) direction_named
      fits = tables_fit table_holds systems sealed custom tables reads old new meant (files_apart files (listed_files automata) tables (first_once (listed_mentions automata)) listed) listed_readable made

      -- the relation of a name is over the systems of its header
      pub listed_under : (name : List ℕ) (r : RelationValue) → relation_named (relations_in reads) name ≡ Some r → AreUnder systems (automaton_tracks (headers_of tables) name) r.systems
      listed_under name r is =
          let over : IsOverSystems (library_with reads systems) (automaton_tracks (headers_of tables) name) r = fits.relations name r is in
          let relation : IsRelation r = found_relation (relations_in reads) name r (are_relations table_holds systems sealed tables reads old new listed_readable made) is in
          under_names systems (automaton_tracks (headers_of tables) name) r.systems (relation.count ∙ over.count) over.each
