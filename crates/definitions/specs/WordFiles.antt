-- What a word's file means: the letters at positions, which are tuples of numbers. A position has none where no listed path leads to a letter.
use Rattle.std.specs.Prelude.{◌≡◌, ℕ, ℤ, List, Ok}
use Rattle.digit_tuple.specs.declared.direction.Direction.{Direction}
use Rattle.dfa_reading.specs.Headers.{Header, Truth, Systems, Sets}
use Rattle.dfa_reading.specs.Listed.{Listed}
use Rattle.dfa_reading.specs.WordFiles.{word_of}
use Rattle.word_output.specs.WordReadings.{HasListedLetterAt}
use Rattle.definitions.specs.Tracks.{NamedSystem, names_of, systems_of}
use Rattle.system_files.specs.SystemFiles.{Custom}
use Rattle.definitions.specs.Named.{AreNamed}

-- over the systems of these names, which have one direction, this letter is listed at the position
pub record HasLetterUnder (custom : Custom) (names : List (List ℕ)) (listed : Listed) (ns : List ℕ) (letter : ℤ) : Type 0 where
  pub direction : Direction
  pub named : List NamedSystem
  pub names_are : names ≡ names_of named
  pub are : AreNamed custom direction named
  pub letter_is : HasListedLetterAt direction (systems_of named) listed ns letter

-- a word's tracks are over systems; below another header there is no letter
abbrev pub HasLetterBelow : Custom → Header → Listed → List ℕ → ℤ → Type 0
HasLetterBelow custom (Truth value) listed ns letter = ⊥
HasLetterBelow custom (Systems names) listed ns letter = HasLetterUnder custom names listed ns letter
HasLetterBelow custom (Sets sets) listed ns letter = ⊥

abbrev pub ListedLetter : Custom → Listed → List ℕ → ℤ → Type 0
ListedLetter custom listed ns letter = HasLetterBelow custom listed.header listed ns letter

-- the bytes are a word's file, and what it lists has this letter at the position
abbrev pub FileLetter : Custom → List ℕ → List ℕ → ℤ → Type 0
FileLetter custom bytes ns letter = (listed : Listed) × (word_of bytes ≡ Ok listed) × ListedLetter custom listed ns letter
