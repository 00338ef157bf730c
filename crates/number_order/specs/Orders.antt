-- The order of two numbers, determined from words of one length: both are in the language, and the first is less.
use Rattle.std.specs.Prelude.{◌≡◌, ℕ, List, [], ◌∷◌, ◌++◌}
use Rattle.std.specs.Ordering.{nat_cmp}
use Rattle.std.specs.declared.cmp.Ordering.{Ordering}
use Rattle.std.specs.Cmp.Lexicographic.{slice_cmp}
use Rattle.digit_tuple.specs.Letters.{product}
use Rattle.digit_tuple.specs.Paddings.{in_order}
use Rattle.digit_tuple.specs.Parts.{part}
use Rattle.digit_tuple.specs.Deterministic.{Automaton}
use Rattle.digit_tuple.specs.declared.direction.Direction.{Direction}
use Rattle.minimise.specs.Residuals.{SameAfter}

-- two tracks over the digits of the language
abbrev pub pair_sizes : Automaton → List ℕ
pair_sizes language = language.sizes ++ language.sizes

-- how many letters they have
abbrev pub pair_letters : Automaton → ℕ
pair_letters language = product (pair_sizes language)

-- the word on one of the two tracks
abbrev pub pair_track : Automaton → ℕ → List ℕ → List ℕ
pair_track language place w = part (pair_sizes language) (place ∷ []) w

-- how the words on the two tracks compare in lexicographic order, read from the most significant digit on
abbrev pub comparison : Direction → Automaton → List ℕ → Ordering
comparison direction language w = slice_cmp nat_cmp (in_order direction (pair_track language 0 w)) (in_order direction (pair_track language 1 w))

-- on each track the language has one residual after the two words, and their tracks compare alike
pub record OrderAlike (direction : Direction) (language : Automaton) (w v : List ℕ) : Type 0 where
  pub first : SameAfter language (pair_track language 0 w) (pair_track language 0 v)
  pub second : SameAfter language (pair_track language 1 w) (pair_track language 1 v)
  pub compared : comparison direction language w ≡ comparison direction language v
