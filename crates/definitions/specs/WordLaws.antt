-- What holds of words that are read of files.
use Rattle.std.specs.Prelude.{◌≡◌, ◌↔◌, ℕ, ◌<◌, ℤ, List, length, Ok}
use Rattle.digit_tuple.specs.Steps.{StepLog}
use Rattle.dfa_reading.specs.Headers.{Systems}
use Rattle.dfa_reading.specs.Listed.{Listed}
use Rattle.dfa_reading.specs.WordFiles.{word_of, IsWordListed}
use Rattle.num_system.specs.Sealed.{SystemValue}
use Rattle.num_system.specs.Tracks as tracks
use Rattle.num_system.specs.Tracks.{direction_of}
use Rattle.word_output.specs.Words.{WordValue, IsWordValue, HasLetter}
use Rattle.word_output.specs.WordReadings.{DoesWordSteps}
use Rattle.definitions.specs.Tracks.{NamedSystem, names_of, systems_of}
use Rattle.system_files.specs.SystemFiles.{Custom}
use Rattle.definitions.specs.Named.{AreNamed}
use Rattle.definitions.specs.WordFiles.{FileLetter}

-- what a word's file lists: a word, of which there is a state
pub record IsWordTable (listed : Listed) : Type 0 where
  pub states : 0 < length listed.outputs
  pub word : IsWordListed listed

abbrev pub FilesAreWords : Type 0
FilesAreWords = (text : List ℕ) (listed : Listed) → word_of text ≡ Ok listed → IsWordTable listed

-- the names mean these systems, read in one direction
pub record NamesMean (custom : Custom) (names : List (List ℕ)) (systems : List SystemValue) : Type 0 where
  pub named : List NamedSystem
  pub names_are : names ≡ names_of named
  pub are : AreNamed custom (direction_of systems) named
  pub systems_are : systems_of named ≡ tracks.systems_of systems

-- a word that is read of a file, over the systems that the names of its header mean, has at each position the letter of the file
abbrev pub WordsHaveFileLetters : Type 0
WordsHaveFileLetters = (custom : Custom) (text : List ℕ) (listed : Listed) (names : List (List ℕ)) (old new : StepLog) (v : WordValue) → word_of text ≡ Ok listed → listed.header ≡ Systems names
    → NamesMean custom names v.systems → IsWordValue v → DoesWordSteps v.systems listed old (Ok v.function) new → (ns : List ℕ) (letter : ℤ) → HasLetter v ns letter ↔ FileLetter custom text ns letter
