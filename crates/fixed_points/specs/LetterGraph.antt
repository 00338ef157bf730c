-- Letters as keys, and where digits lead from them. Nobody has to believe this: it serves the code of the step.
use Rattle.std.specs.Prelude.{◌≡◌, ℕ, Bool, true, ℤ, pos, List, [], ◌∷◌, Option, Some, map, slice_index, slice_index_or}
use Rattle.std.specs.Int.{cast_signed, cast_unsigned, w32}
use Rattle.morph_words.specs.Rules.{Rules}
use Rattle.morph_words.specs.Images.{image}
use Rattle.morph_words.specs.Uniform.{HasRule}
use Rattle.morph_words.specs.MorphismKinds.{HasFixedPoint}

-- the letter to which a digit leads: the one at its position of the image
abbrev pub letter_by : Rules → ℤ → ℕ → ℤ
letter_by rules letter digit = slice_index_or (image rules letter) digit (pos 0)

-- the letter to which the digits of a word lead
abbrev pub reached : Rules → ℤ → List ℕ → ℤ
reached rules letter [] = letter
reached rules letter (digit ∷ word) = reached rules (letter_by rules letter digit) word

-- the key of a letter, and the letter of a key
abbrev pub key_of : ℤ → List ℕ
key_of letter = cast_unsigned w32 letter ∷ []

abbrev pub letter_of : List ℕ → ℤ
letter_of key = cast_signed w32 (slice_index key 0)

-- the key is that of a letter with a rule
pub record IsLetterKey (rules : Rules) (key : List ℕ) : Type 0 where
  pub letter : ℤ
  pub has_rule : HasRule rules letter
  pub key_is : key ≡ key_of letter

-- where a digit leads from a key
abbrev pub key_after : Rules → List ℕ → ℕ → Option (List ℕ)
key_after rules key digit = Some (key_of (letter_by rules (letter_of key) digit))

-- letters with rules are determined by their keys, and digits lead from each to another
pub record IsLetterGraph (rules : Rules) (k : ℕ) : Type 0 where
  pub has : HasFixedPoint rules k
  pub letter_back : (letter : ℤ) → HasRule rules letter → letter_of (key_of letter) ≡ letter

-- each key accepts
abbrev pub accepts_all : List ℕ → Bool
accepts_all key = true

-- the letters of keys
abbrev pub letters_at : List (List ℕ) → List (Option ℤ)
letters_at keys = map (λ key. Some (letter_of key)) keys
