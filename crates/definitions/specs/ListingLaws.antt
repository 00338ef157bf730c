-- What holds of the words that definitions list.
use Rattle.std.specs.Prelude.{◌≡◌, ◌↔◌, ℕ, ℤ, List, [], None, Some, IsTrue}
use Rattle.digit_tuple.specs.Deterministic.{Automaton, IsTable, accepts_of, letters_of}
use Rattle.digit_tuple.specs.Sets.{sizes_of}
use Rattle.digit_tuple.specs.Tuples.{Codes}
use Rattle.digit_tuple.specs.declared.direction.Direction.{Direction}
use Rattle.wal_outside.specs.declared.folder.Folder.TheVariants.{Automata}
use Rattle.num_system.specs.Tracks.{systems_of, direction_of}
use Rattle.number_relations.specs.Relations.{RelationValue, IsRelation, RelationHolds}
use Rattle.word_walk.specs.Listed.{is_listed}
use Rattle.definitions.specs.Tracks.{Tracks, OverSets, OverSystems}
use Rattle.definitions.specs.Trees.{Tree, File, MayBeIn}
use Rattle.definitions.specs.Texts.{HasTreeText}
use Rattle.definitions.specs.TreeMeanings.{tree_holds, tree_words}
use Rattle.definitions.specs.Listings.{IsListedOver, ListsNumbers}
use Rattle.system_files.specs.SystemFiles.{Custom}

-- the text of a definition that may be among automata, read as a file, lists the words that the definition lists
abbrev pub TextsListAsTheirTrees : Type 0
TextsListAsTheirTrees = (custom : Custom) (tree : Tree) (text : List ℕ) → MayBeIn Automata tree → HasTreeText custom tree text → (tracks : Tracks) (w : List ℕ) → IsListedOver custom tracks (File text) w ↔ IsListedOver custom tracks tree w

-- the automaton of a relation that holds of the numbers of which a definition does lists, without the words whose most significant letter is zero, the words that the definition lists
abbrev pub RelationsListShortestWords : Type 0
RelationsListShortestWords = (custom : Custom) (tree : Tree) (r : RelationValue) → IsRelation r → ((ns : List ℕ) → RelationHolds r ns ↔ tree_holds custom tree ns)
    → (w : List ℕ) → IsTrue (is_listed r.automaton (Some (direction_of r.systems)) w) ↔ ListsNumbers (direction_of r.systems) (systems_of r.systems) (λ ns. tree_holds custom tree ns) w

-- an automaton over sets that accepts the words of a definition lists these
abbrev pub AutomataListTheirWords : Type 0
AutomataListTheirWords = (custom : Custom) (tree : Tree) (sets : List (List ℤ)) (d : Automaton) → d.sizes ≡ sizes_of sets → IsTable (letters_of d) d.states
    → ((tuples : List (List ℤ)) (w : List ℕ) → Codes sets tuples w → IsTrue (accepts_of d w) ↔ tree_words custom tree tuples)
    → (w : List ℕ) → IsTrue (is_listed d None w) ↔ IsListedOver custom (OverSets sets) tree w

-- a sentence lists the empty word alone, where it is true
abbrev pub SentencesListTheEmptyWord : Type 0
SentencesListTheEmptyWord = (custom : Custom) (tree : Tree) (direction : Direction) (w : List ℕ) → IsListedOver custom (OverSystems direction []) tree w ↔ ((w ≡ []) × tree_holds custom tree [])
