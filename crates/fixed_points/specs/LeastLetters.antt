-- The letters that lack rules. Nobody has to believe this: it serves the code that finds the kind of refusal.
use Rattle.std.specs.Prelude.{◌≡◌, ℕ, ◌<◌, ℤ, pos, List, length, Option, None, Some, slice_index_or, if◌then◌else◌, int_lt}
use Rattle.std.specs.List.{Contains}
use Rattle.morph_words.specs.Rules.{Rules}
use Rattle.morph_words.specs.Images.{image}
use Rattle.morph_words.specs.Uniform.{HasRule, IsLeast}

-- the letter is one of the first so many of a word, and has no rule
pub record LacksAmong (rules : Rules) (word : List ℤ) (count : ℕ) (letter : ℤ) : Type 0 where
  pub place : ℕ
  pub before : place < count
  pub within : place < length word
  pub letter_is : slice_index_or word place (pos 0) ≡ letter
  pub lacks : ¬ HasRule rules letter

-- the letter is in the image of one of the first so many letters, and has no rule
pub record LacksBelow (rules : Rules) (letters : List ℤ) (count : ℕ) (letter : ℤ) : Type 0 where
  pub place : ℕ
  pub before : place < count
  pub inside : place < length letters
  pub within : Contains (image rules (slice_index_or letters place (pos 0))) letter
  pub lacks : ¬ HasRule rules letter

-- the lesser of two letters, of which each may be missing
abbrev pub lesser : Option ℤ → Option ℤ → Option ℤ
lesser None other = other
lesser (Some first) None = Some first
lesser (Some first) (Some second) = if int_lt second first then Some second else Some first
