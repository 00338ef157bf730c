-- The letters of the image of a word that is infinite, and may lack letters.
use Rattle.std.specs.Prelude.{◌≡◌, ℕ, ◌+◌, ◌*◌, ◌<◌, ℤ, pos, List, length, Some, slice_get, slice_index_or}
use Rattle.morph_words.specs.Rules.{Rules}
use Rattle.morph_words.specs.Images.{applied, image}
use Rattle.morph_words.specs.Uniform.{AreUniform}

-- the letter at k*q + r is that at position r of the image of the word's letter at q, k being the length of all images
pub record IsImageLetter (rules : Rules) (LetterOf : ℕ → ℤ → Type 0) (place : ℕ) (letter : ℤ) : Type 0 where
  pub k : ℕ
  pub uniform : AreUniform rules k
  pub q : ℕ
  pub r : ℕ
  pub small : r < k
  pub place_is : place ≡ q * k + r
  pub of_word : ℤ
  pub has : LetterOf q of_word
  pub letter_is : slice_get (image rules of_word) r ≡ Some letter

-- the images of some first letters of the word, one after another, have this letter at the position
pub record IsJoinedLetter (rules : Rules) (LetterOf : ℕ → ℤ → Type 0) (place : ℕ) (letter : ℤ) : Type 0 where
  pub prefix : List ℤ
  pub letters : (i : ℕ) → i < length prefix → LetterOf i (slice_index_or prefix i (pos 0))
  pub letter_is : slice_get (applied rules prefix) place ≡ Some letter
