-- The words that a table that is read lists are those that the definition under its name lists.
use Rattle.std.proofs.Common.{◌≡◌, ◌↔◌, ℕ, ℤ, List, [], ◌∷◌, None, Some, Ok, refl, sym, ap, subst, IsTrue}
use Rattle.std.specs.List.{All}
use Rattle.digit_tuple.specs.Deterministic as deterministic
use Rattle.digit_tuple.specs.Deterministic.{accepts_of}
use Rattle.digit_tuple.specs.Sets.{IsAscending}
use Rattle.digit_tuple.specs.Steps.{StepLog}
use Rattle.digit_tuple.specs.Systems.{digit_set, digit_sets}
use Rattle.digit_tuple.specs.Tuples.{Codes}
use Rattle.digit_tuple.specs.declared.direction.Direction.{Direction}
use Rattle.digit_tuple.specs.declared.direction.Direction.TheVariants.{Msd}
use Rattle.wal_outside.specs.Files.{Files}
use Rattle.wal_outside.specs.declared.folder.Folder.TheVariants.{Automata}
use Rattle.dfa_loading.specs.Places.{IsListedBy}
use Rattle.dfa_loading.specs.declared.loaded.Loaded.{Loaded}
use Rattle.dfa_reading.specs.Headers.{Header, Truth, Systems, Sets}
use Rattle.dfa_text.specs.Meaning.{FileAccepts}
use Rattle.formula_resolve.specs.declared.file.File.TheVariants.{Automaton}
use Rattle.plan_relations.specs.Libraries.{NamedRelation}
use Rattle.named_systems.specs.NamedSystems.{NamedSystem, AreSealed}
use Rattle.num_system.specs.Sealed.{SystemValue}
use Rattle.num_system.specs.Tracks as relations
use Rattle.num_system.specs.Tracks.{ShareDirection, direction_of}
use Rattle.number_relations.specs.Relations.{RelationHolds}
use Rattle.numeration.specs.Systems.{System}
use Rattle.word_walk.specs.Listed.{is_listed}
use Rattle.language_steps.specs.LanguageSteps.{DoesPlainTable}
use Rattle.language_steps.proofs.Coded.{IsOf, accepted_at}
use Rattle.language_steps.proofs.HeaderSets.{file_sets}
use Rattle.language_steps.proofs.TableWords.{table_words}
use Rattle.definitions.specs.Listings.{AreTracksOf, IsListedOver, ListsNumbers}
use Rattle.definitions.specs.ListingLaws.{AutomataListTheirWords, RelationsListShortestWords, TextsListAsTheirTrees}
use Rattle.definitions.specs.TableLaws.{TablesHold}
use Rattle.definitions.specs.Texts.{HasTextIn, Stores}
use Rattle.definitions.specs.Tracks.{Tracks, OverSets, OverSystems, letter_sets, header_tracks}
use Rattle.definitions.specs.TreeMeanings.{tree_holds}
use Rattle.definitions.specs.Trees.{Entry, File, Ledger, tree_of, custom_of}
use Rattle.system_files.specs.SystemFiles.{Custom}
use Rattle.command_parts.specs.FormulaSteps.{AreMeant}
use Rattle.listing_commands.specs.ListingMakes.{sets_below}
use Rattle.listing_commands.specs.ListingOutcomes.{DecidesListed}
use Rattle.command_parts.specs.TableReads.{AreSystemsUnder, IsRelationRead}
use Rattle.command_parts.specs.TableReading.{IsReadable}
use Rattle.command_parts.specs.WordPrinting.{tracks_named}
use Rattle.command_parts.proofs.TableMeanings.{entry_there, tree_text}
use Rattle.command_parts.proofs.TableRelations.{named_with, names_with, relation_holds, relation_of_table, systems_with, with_names}

-- the laws of definitions by which a table lists the words of the definition that it stores
pub record ListingLaws : Type 0 where
  pub texts : TextsListAsTheirTrees
  pub relations : RelationsListShortestWords
  pub languages : AutomataListTheirWords
  pub tables : TablesHold

-- the tracks of a header over the systems that are under its names
abbrev pub tracks_below : Header → List SystemValue → Tracks
tracks_below (Truth value) found = OverSystems Msd []
tracks_below (Systems names) found = OverSystems (direction_of found) (with_names names found)
tracks_below (Sets sets) found = OverSets sets

pub are_tracks : (custom : Custom) (systems : List NamedSystem) → AreMeant custom systems → (header : Header) (found : List SystemValue) → AreSystemsUnder systems header found → ShareDirection found → AreTracksOf custom header (tracks_below header found)
are_tracks custom systems meant (Truth value) found under one = refl
are_tracks custom systems meant (Systems names) found under one = (names_with custom systems meant names found under, named_with custom systems meant (direction_of found) names found one under)
are_tracks custom systems meant (Sets sets) found under one = absurd under

-- they have these digits
same_named : (names : List (List ℕ)) (found : List SystemValue) → digit_sets (header_tracks (with_names names found)) ≡ digit_sets (tracks_named names found)
same_named [] found = refl
same_named (name ∷ names) [] = refl
same_named (name ∷ names) (s ∷ found) = ap (λ (sets : List (List ℤ)). digit_set s.digits ∷ sets) (same_named names found)

pub same_sets : (header : Header) (found : List SystemValue) → letter_sets (tracks_below header found) ≡ sets_below header found
same_sets (Truth value) found = refl
same_sets (Systems names) found = same_named names found
same_sets (Sets sets) found = refl

module _ (laws : ListingLaws) (ledger : Ledger) (files : Files) (stores : Stores ledger files) (name : List ℕ) (table : Loaded) (listed : IsListedBy files (Automaton name) table) where
  abbrev custom : Custom
  custom = custom_of ledger

  -- there is a definition under the name
  pub definition : (e : Entry) × (ledger Automata name ≡ Some e) × HasTextIn custom Automata e listed.text
  definition = entry_there custom Automata (ledger Automata name) (files Automata name) listed.text (stores Automata name) listed.there

  -- that lists what its text does
  as_tree : (over : Tracks) (w : List ℕ) → IsListedOver custom over (File listed.text) w ↔ IsListedOver custom over (tree_of definition.0) w
  as_tree over w = laws.texts custom (tree_of definition.0) listed.text definition.2.0 (tree_text custom definition.0 listed.text definition.2.1) over w

  pub sets_decide : (sets : List (List ℤ)) → table.listed.header ≡ Sets sets → (d : deterministic.Automaton) (old new : StepLog) → DoesPlainTable table.listed old (Ok d) new → DecidesListed custom (OverSets sets) (tree_of definition.0) (is_listed d None)
  sets_decide sets header d old new done w = ((λ h. tree.0 (file.0 h)), (λ h. file.1 (tree.1 h)))
    where
      is : IsOf sets (λ tuples. FileAccepts listed.text tuples) d
      is = table_words sets listed.text table.listed listed.lists.lists header d old new done

      up : All IsAscending sets
      up = λ k e within. ((file_sets listed.text table.listed sets listed.lists.lists header).each k e within).ascending

      says : (tuples : List (List ℤ)) (v : List ℕ) → Codes sets tuples v → IsTrue (accepts_of d v) ↔ FileAccepts listed.text tuples
      says tuples v codes = ((λ accepted. is.has tuples (v, codes, accepted)), (λ has. accepted_at sets up d tuples v codes (is.fits tuples has)))

      file : IsTrue (is_listed d None w) ↔ IsListedOver custom (OverSets sets) (File listed.text) w
      file = laws.languages custom (File listed.text) sets d is.sizes is.canonical.table says w

      tree : IsListedOver custom (OverSets sets) (File listed.text) w ↔ IsListedOver custom (OverSets sets) (tree_of definition.0) w
      tree = as_tree (OverSets sets) w

  module _ (systems : List NamedSystem) (sealed : AreSealed systems) (meant : AreMeant custom systems) (readable : IsReadable systems table) where
    -- the words that the text lists over systems
    abbrev Lists : List ℕ → Direction → List System → Type 0
    Lists w direction ss = ListsNumbers direction ss (λ ns. tree_holds custom (File listed.text) ns) w

    pub relation_decides : (old new : StepLog) (r : NamedRelation) (read : IsRelationRead systems old table r new) → DecidesListed custom (tracks_below table.listed.header read.tracks) (tree_of definition.0) (is_listed r.relation.automaton (Some (direction_of read.tracks)))
    relation_decides old new r read w = ((λ h. tree.0 (over.0 h)), (λ h. over.1 (tree.1 h)))
      where
        holds : (ns : List ℕ) → RelationHolds r.relation ns ↔ tree_holds custom (File listed.text) ns
        holds ns = relation_holds laws.tables custom systems sealed meant old new table r listed.text listed.lists.lists readable read ns

        numbers : IsTrue (is_listed r.relation.automaton (Some (direction_of read.tracks)) w) ↔ Lists w (direction_of read.tracks) (relations.systems_of read.tracks)
        numbers =
            let made = relation_of_table laws.tables systems sealed old new table r readable read in
            subst (λ (found : List SystemValue). IsTrue (is_listed r.relation.automaton (Some (direction_of found)) w) ↔ Lists w (direction_of found) (relations.systems_of found)) made.systems_are
            (laws.relations custom (File listed.text) r.relation made.relation holds w)

        of_header : (header : Header) → AreSystemsUnder systems header read.tracks → Lists w (direction_of read.tracks) (relations.systems_of read.tracks) ↔ IsListedOver custom (tracks_below header read.tracks) (File listed.text) w
        of_header (Truth value) under = subst (λ (found : List SystemValue). Lists w (direction_of found) (relations.systems_of found) ↔ Lists w Msd []) (sym under) ((λ h. h), (λ h. h))
        of_header (Systems names) under =
            subst (λ (ss : List System). Lists w (direction_of read.tracks) (relations.systems_of read.tracks) ↔ Lists w (direction_of read.tracks) ss) (sym (systems_with custom systems meant names read.tracks under)) ((λ h. h), (λ h. h))
        of_header (Sets sets) under = absurd under

        over : IsTrue (is_listed r.relation.automaton (Some (direction_of read.tracks)) w) ↔ IsListedOver custom (tracks_below table.listed.header read.tracks) (File listed.text) w
        over = let header = of_header table.listed.header read.over in ((λ h. header.0 (numbers.0 h)), (λ h. numbers.1 (header.1 h)))

        tree : IsListedOver custom (tracks_below table.listed.header read.tracks) (File listed.text) w ↔ IsListedOver custom (tracks_below table.listed.header read.tracks) (tree_of definition.0) w
        tree = as_tree (tracks_below table.listed.header read.tracks) w
