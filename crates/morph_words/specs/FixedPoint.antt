-- The fixed point of a morphism from the letter 0: the morphism, applied to the word 0 again and again.
use Rattle.std.specs.Prelude.{◌≡◌, ℕ, zero, suc, ◌<◌, ◌≤◌, ℤ, pos, List, [], ◌∷◌, length, Some, slice_get}
use Rattle.morph_words.specs.Rules.{Rules}
use Rattle.morph_words.specs.Images.{applied}

-- the morphism applied so many times to the word 0
abbrev pub power : Rules → ℕ → List ℤ
power rules zero = pos 0 ∷ []
power rules (suc times) = applied rules (power rules times)

-- the letter of the fixed point at a position: that of the first of these words that is longer than the position
pub record IsLetterAt (rules : Rules) (place : ℕ) (letter : ℤ) : Type 0 where
  pub times : ℕ
  pub first : (fewer : ℕ) → fewer < times → length (power rules fewer) ≤ place
  pub letter_is : slice_get (power rules times) place ≡ Some letter
