-- Laws of the images of words.
use Rattle.std.specs.Prelude.{◌≡◌, ◌↔◌, ℕ, ℤ, ◌∷◌, []}
use Rattle.morph_words.specs.Rules.{Rules}
use Rattle.morph_words.specs.ImageLetters.{IsImageLetter, IsJoinedLetter}
use Rattle.word_output.specs.Words.{HasLetter, IsWordValue, WordValue}
use Rattle.word_images.specs.ImageWords.{IsMapped}

-- the letter of a word of one track at a position
abbrev pub LetterOf : WordValue → ℕ → ℤ → Type 0
LetterOf word m c = HasLetter word (m ∷ []) c

-- the image of a word with a letter at each position is the images of its letters, one after another
abbrev pub ImagesAreJoined : Type 0
ImagesAreJoined = (rules : Rules) (word : WordValue) (k : ℕ) → IsWordValue word → IsMapped rules word k → ((place : ℕ) → (letter : ℤ) × LetterOf word place letter)
    → (place : ℕ) (letter : ℤ) → IsImageLetter rules (LetterOf word) place letter ↔ IsJoinedLetter rules (LetterOf word) place letter

-- the image of a word has one letter at most at each position
abbrev pub ImagesHaveOneLetter : Type 0
ImagesHaveOneLetter = (rules : Rules) (word : WordValue) (place : ℕ) (b c : ℤ) → IsWordValue word → IsImageLetter rules (LetterOf word) place b → IsImageLetter rules (LetterOf word) place c → b ≡ c
