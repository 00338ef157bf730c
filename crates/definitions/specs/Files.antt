-- What an automaton file means: the numbers of which it holds.
use Rattle.std.specs.Prelude.{◌≡◌, ℕ, List, [], Ok, IsTrue}
use Rattle.std.specs.List.{AllZip}
use Rattle.digit_tuple.specs.Paddings.{in_order}
use Rattle.digit_tuple.specs.declared.direction.Direction.{Direction}
use Rattle.dfa_reading.specs.Branching.{IsLetterOfDigits}
use Rattle.dfa_reading.specs.Headers.{Header, Truth, Systems, Sets}
use Rattle.dfa_reading.specs.Listed.{Listed, ListedAccepts}
use Rattle.dfa_reading.specs.Reading.{relation_of}
use Rattle.numeration.specs.Representation.{Represents, sizes_of}
use Rattle.numeration.specs.Systems.{System}
use Rattle.definitions.specs.Tracks.{NamedSystem, names_of, systems_of}
use Rattle.system_files.specs.SystemFiles.{Custom}
use Rattle.definitions.specs.Named.{AreNamed}

-- some word of tuples of digits that represents the numbers is accepted by what is listed
pub record HasListedWord (direction : Direction) (ss : List System) (listed : Listed) (ns : List ℕ) : Type 0 where
  pub tuples : List (List ℕ)
  pub word : List ℕ
  pub letters : AllZip (IsLetterOfDigits (sizes_of ss)) tuples word
  pub represents : Represents ss (in_order direction word) ns
  pub accepts : ListedAccepts (sizes_of ss) listed tuples

-- it is so over the systems of these names, which have one direction
pub record HoldsUnder (custom : Custom) (names : List (List ℕ)) (listed : Listed) (ns : List ℕ) : Type 0 where
  pub direction : Direction
  pub named : List NamedSystem
  pub names_are : names ≡ names_of named
  pub are : AreNamed custom direction named
  pub word : HasListedWord direction (systems_of named) listed ns

-- Below `true` it holds of no number, which is the one tuple over no tracks, below `false` of no tuple; over systems of the numbers that
-- are represented; and over sets of none.
abbrev pub HoldsBelow : Custom → Header → Listed → List ℕ → Type 0
HoldsBelow custom (Truth value) listed ns = IsTrue value × (ns ≡ [])
HoldsBelow custom (Systems names) listed ns = HoldsUnder custom names listed ns
HoldsBelow custom (Sets sets) listed ns = ⊥

abbrev pub ListedHolds : Custom → Listed → List ℕ → Type 0
ListedHolds custom listed ns = HoldsBelow custom listed.header listed ns

-- the bytes are a file, and what it lists holds of the numbers
abbrev pub FileHolds : Custom → List ℕ → List ℕ → Type 0
FileHolds custom bytes ns = (listed : Listed) × (relation_of bytes ≡ Ok listed) × ListedHolds custom listed ns
