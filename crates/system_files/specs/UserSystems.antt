-- The numeration system that the files of a user define.
use Rattle.std.specs.Prelude.{◌≡◌, ◌↔◌, ℕ, ◌+◌, Bool, true, false, List, [], ◌∷◌, map, reverse, IsTrue}
use Rattle.std.specs.List.{AllZip}
use Rattle.digit_tuple.specs.Paddings.{in_order}
use Rattle.digit_tuple.specs.declared.direction.Direction.{Direction}
use Rattle.dfa_reading.specs.Branching.{IsLetterOfDigits}
use Rattle.dfa_reading.specs.Listed.{ListedAccepts}
use Rattle.numeration.specs.Representation.{Represents, sizes_of}
use Rattle.numeration.specs.Systems.{System, IsSystem}
use Rattle.system_names.specs.UserNames.{IsUserName}
use Rattle.system_files.specs.SystemFiles.{Custom, SystemFiles, AreFilesOf}

-- words as files have them that may be of the other direction
abbrev pub in_file : {X : Type 0} → Bool → List X → List X
in_file true w = reverse w
in_file false w = w

-- the digits of a word, each alone on its track
abbrev pub singles : List ℕ → List (List ℕ)
singles w = map (λ digit. digit ∷ []) w

-- the system's words are those that its file accepts
pub record AreWordsOf (direction : Direction) (files : SystemFiles) (s : System) : Type 0 where
  pub digits : s.digits ≡ files.digits
  pub language : (w : List ℕ) → IsTrue (s.test w) ↔ ListedAccepts (s.digits ∷ []) files.language (in_file files.reversed (singles (in_order direction w)))

-- the same system on each track of an adder
abbrev pub three_of : System → List System
three_of s = s ∷ s ∷ s ∷ []

-- some word that represents the three numbers is accepted by the adder's file
pub record AddsInFile (direction : Direction) (files : SystemFiles) (s : System) (x y z : ℕ) : Type 0 where
  pub tuples : List (List ℕ)
  pub word : List ℕ
  pub letters : AllZip (IsLetterOfDigits (sizes_of (three_of s))) tuples word
  pub represents : Represents (three_of s) (in_order direction word) (x ∷ y ∷ z ∷ [])
  pub accepts : ListedAccepts (sizes_of (three_of s)) files.adder (in_file files.reversed tuples)

-- the files define the system: its words are a numeration system's, and its adder's sums are those of numbers
pub record IsDefinedBy (direction : Direction) (files : SystemFiles) (s : System) : Type 0 where
  pub words : AreWordsOf direction files s
  pub system : IsSystem s
  pub sums : (x y z : ℕ) → AddsInFile direction files s x y z ↔ (x + y ≡ z)

-- the name means this system, read in this direction, by the files that are there
pub record IsUserSystem (custom : Custom) (name : List ℕ) (direction : Direction) (s : System) : Type 0 where
  pub part : List ℕ
  pub is_name : IsUserName direction part name
  pub files : SystemFiles
  pub found : AreFilesOf custom direction part files
  pub defined : IsDefinedBy direction files s

-- a name means one system at most, in one direction
abbrev pub NamesMeanOneSystem : Type 0
NamesMeanOneSystem = (custom : Custom) (name : List ℕ) (direction other : Direction) (s t : System) → IsUserSystem custom name direction s → IsUserSystem custom name other t → (direction ≡ other) × (s ≡ t)
