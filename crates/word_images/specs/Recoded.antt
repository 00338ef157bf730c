-- The words whose letters are those at one position of the images.
use Rattle.std.specs.Prelude.{◌≡◌, ◌↔◌, ℕ, ℤ, List, Some, slice_get}
use Rattle.morph_words.specs.Rules.{Rules}
use Rattle.morph_words.specs.Images.{image}
use Rattle.word_output.specs.Words.{HasLetter, IsWordValue, WordValue}

-- the word has at each position the letter at position r of the image of the letter that the other word has there, if there is one
pub record IsRecoded (rules : Rules) (word : WordValue) (r : ℕ) (u : WordValue) : Type 0 where
  pub word_is : IsWordValue u
  pub systems : u.systems ≡ word.systems
  pub letters : (ns : List ℕ) (b : ℤ) → HasLetter u ns b ↔ ((a : ℤ) × HasLetter word ns a × (slice_get (image rules a) r ≡ Some b))
