-- Words whose tracks are under names.
use Rattle.std.specs.Prelude.{ℕ, List}
use Rattle.word_output.specs.WordPairs.{PlacedLetters}
use Rattle.word_output.specs.Words.{WordValue}

-- a word, and a name for each of its tracks
pub record PlacedWord : Type 0 where
  pub word : WordValue
  pub under : List (List ℕ)

-- its letters, under these names
abbrev pub placed_letters : PlacedWord → PlacedLetters
placed_letters p = record { function = p.word.function; under = p.under }
