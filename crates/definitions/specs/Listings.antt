-- Which words a definition lists: over sets its words, and over systems the shortest representations of the numbers of which it holds.
use Rattle.std.specs.Prelude.{◌≡◌, ℕ, ◌<◌, ◌≤◌, ℤ, List, [], length}
use Rattle.digit_tuple.specs.Letters.{IsWord}
use Rattle.digit_tuple.specs.Paddings.{in_order}
use Rattle.digit_tuple.specs.Tuples.{Codes}
use Rattle.digit_tuple.specs.declared.direction.Direction.{Direction}
use Rattle.digit_tuple.specs.declared.direction.Direction.TheVariants.{Msd}
use Rattle.dfa_reading.specs.Headers.{Header, Truth, Systems, Sets}
use Rattle.numeration.specs.Representation.{Represents, letters_in}
use Rattle.numeration.specs.Systems.{System}
use Rattle.definitions.specs.Tracks.{Tracks, OverSets, OverSystems, names_of, systems_of}
use Rattle.definitions.specs.Trees.{Tree}
use Rattle.definitions.specs.TreeMeanings.{tree_holds, tree_words}
use Rattle.definitions.specs.Named.{AreNamed}
use Rattle.system_files.specs.SystemFiles.{Custom}

-- the word represents the numbers, and no shorter word does
pub record IsShortestOf (direction : Direction) (ss : List System) (ns w : List ℕ) : Type 0 where
  pub over : IsWord (letters_in ss) w
  pub represents : Represents ss (in_order direction w) ns
  pub least : (v : List ℕ) → IsWord (letters_in ss) v → Represents ss (in_order direction v) ns → length w ≤ length v

-- the word is the shortest one of a tuple of numbers of which this holds
abbrev pub ListsNumbers : Direction → List System → (List ℕ → Type 0) → List ℕ → Type 0
ListsNumbers direction ss holds w = (ns : List ℕ) × holds ns × IsShortestOf direction ss ns w

-- the word has the letters of a word of tuples in the language
abbrev pub ListsTuples : List (List ℤ) → (List (List ℤ) → Type 0) → List ℕ → Type 0
ListsTuples sets InLanguage w = (tuples : List (List ℤ)) × InLanguage tuples × Codes sets tuples w

-- The definition lists the word over these tracks. A sentence has no tracks, and so it lists the empty word alone, where it is true.
abbrev pub IsListedOver : Custom → Tracks → Tree → List ℕ → Type 0
IsListedOver custom (OverSets sets) tree w = ListsTuples sets (λ tuples. tree_words custom tree tuples) w
IsListedOver custom (OverSystems direction named) tree w = ListsNumbers direction (systems_of named) (λ ns. tree_holds custom tree ns) w

-- it lists infinitely many words: as there are finitely many words of each length, longer ones than any number
abbrev pub ListsInfinitely : Custom → Tracks → Tree → Type 0
ListsInfinitely custom tracks tree = (n : ℕ) → (w : List ℕ) × (n < length w) × IsListedOver custom tracks tree w

-- The tracks of a file with this header: those of its sets, or the systems that its names mean. A truth value has none.
abbrev pub AreTracksOf : Custom → Header → Tracks → Type 0
AreTracksOf custom (Truth value) tracks = tracks ≡ OverSystems Msd []
AreTracksOf custom (Systems names) (OverSystems direction named) = (names ≡ names_of named) × AreNamed custom direction named
AreTracksOf custom (Systems names) (OverSets sets) = ⊥
AreTracksOf custom (Sets sets) tracks = tracks ≡ OverSets sets
