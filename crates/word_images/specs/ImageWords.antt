-- Which words are mapped by which morphisms, and the image of a word.
use Rattle.std.specs.Prelude.{◌≡◌, ◌↔◌, ℕ, ℤ, List, [], ◌∷◌}
use Rattle.std.specs.List.{Contains}
use Rattle.digit_tuple.specs.Sets.{IsAscending}
use Rattle.morph_words.specs.Rules.{Rules}
use Rattle.morph_words.specs.Images.{image}
use Rattle.morph_words.specs.ImageLetters.{IsImageLetter}
use Rattle.morph_words.specs.Uniform.{HasLength, HasRule, IsImageLength}
use Rattle.word_output.specs.Words.{HasLetter, IsWordValue, WordValue}

-- the letter is at some position of the word
abbrev pub OccursIn : WordValue → ℤ → Type 0
OccursIn word letter = Contains word.function.letters letter

-- the letter occurs in the word, and has no rule
pub record IsMissing (rules : Rules) (word : WordValue) (letter : ℤ) : Type 0 where
  pub occurs : OccursIn word letter
  pub lacks : ¬ HasRule rules letter

-- each letter that occurs in the word has a rule
abbrev pub AreRuled : Rules → WordValue → Type 0
AreRuled rules word = (letter : ℤ) → OccursIn word letter → HasRule rules letter

-- the letter is in the image of a letter that occurs in the word
pub record IsOutput (rules : Rules) (word : WordValue) (letter : ℤ) : Type 0 where
  pub from : ℤ
  pub occurs : OccursIn word from
  pub within : Contains (image rules from) letter

-- those letters, in ascending order
pub record AreOutputs (rules : Rules) (word : WordValue) (letters : List ℤ) : Type 0 where
  pub ascending : IsAscending letters
  pub members : (b : ℤ) → Contains letters b ↔ IsOutput rules word b

-- all images have length k, and each letter of the word has one
pub record IsMapped (rules : Rules) (word : WordValue) (k : ℕ) : Type 0 where
  pub length_is : HasLength IsImageLength rules k
  pub ruled : AreRuled rules word

-- the word over the same systems that has at each position the letter of the image, if there is one
pub record IsImageWord (rules : Rules) (word v : WordValue) : Type 0 where
  pub word_is : IsWordValue v
  pub systems : v.systems ≡ word.systems
  pub letters : (place : ℕ) (letter : ℤ) → HasLetter v (place ∷ []) letter ↔ IsImageLetter rules (λ m c. HasLetter word (m ∷ []) c) place letter
