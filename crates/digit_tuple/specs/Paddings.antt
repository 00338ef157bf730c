-- Words with zero letters at the end of their most significant letters. The zero letter has the digit 0 on each track.
use Rattle.std.specs.Prelude.{ℕ, zero, suc, List, [], ◌∷◌, ◌++◌, reverse}
use Rattle.digit_tuple.specs.declared.direction.Direction.{Direction}
use Rattle.digit_tuple.specs.declared.direction.Direction.TheVariants.{Msd, Lsd}

-- so many zero letters
abbrev pub zeros : ℕ → List ℕ
zeros zero = []
zeros (suc k) = 0 ∷ zeros k

-- the word without its leading zeros
abbrev pub without_zeros : List ℕ → List ℕ
without_zeros [] = []
without_zeros (zero ∷ w) = without_zeros w
without_zeros (suc a ∷ w) = suc a ∷ w

-- the word with its most significant letter first, or such a word in the direction
abbrev pub in_order : Direction → List ℕ → List ℕ
in_order Msd w = w
in_order Lsd w = reverse w

-- the word without the zeros at the end of its most significant letters
abbrev pub strip : Direction → List ℕ → List ℕ
strip Msd w = without_zeros w
strip Lsd w = reverse (without_zeros (reverse w))

-- the word with so many zeros more at that end
abbrev pub padded : Direction → ℕ → List ℕ → List ℕ
padded Msd k w = zeros k ++ w
padded Lsd k w = w ++ zeros k
