-- Numbers and words by their digits, the least significant digit first.
use Rattle.std.specs.Prelude.{◌≡◌, ◌<◌, ◌≤◌, ℕ, zero, suc, ◌+◌, ◌*◌, ◌/◌, ◌%◌, ◌^◌, List, [], ◌∷◌, ◌++◌, length, take, drop, reverse}
use Rattle.digit_tuple.specs.Letters.{IsWord}
use Rattle.digit_tuple.specs.Paddings.{zeros}
use Rattle.base_k.specs.Positional.{value}

-- the positional value: the first digit, and k times the value of the others
abbrev pub value_lsd : ℕ → List ℕ → ℕ
value_lsd k [] = 0
value_lsd k (a ∷ w) = a + k * value_lsd k w

-- the lowest digits of a number in base r, so many of them
abbrev pub lowest_digits : ℕ → ℕ → ℕ → List ℕ
lowest_digits r zero n = []
lowest_digits r (suc b) n = n % r ∷ lowest_digits r b (n / r)

-- the word with each digit, of base r ^ b, written as its b digits in base r
abbrev pub expanded : ℕ → ℕ → List ℕ → List ℕ
expanded r b [] = []
expanded r b (a ∷ w) = lowest_digits r b a ++ expanded r b w

-- the values of the first groups of b digits in base r, so many of them
abbrev pub first_groups : ℕ → ℕ → ℕ → List ℕ → List ℕ
first_groups r b zero w = []
first_groups r b (suc n) w = value_lsd r (take b w) ∷ first_groups r b n (drop b w)

-- the values of the whole groups of b digits of a word
abbrev pub grouped : ℕ → ℕ → List ℕ → List ℕ
grouped r b w = first_groups r b (length w / b) w

-- the digits after the whole groups, fewer than b
abbrev pub remaining : ℕ → List ℕ → List ℕ
remaining b w = drop (length w / b * b) w

-- expanding a word keeps its value
abbrev pub ExpansionsKeepValues : Type 0
ExpansionsKeepValues = (r b : ℕ) (w : List ℕ) → 2 ≤ r → IsWord (r ^ b) w → value (r ^ b) (reverse w) ≡ value r (reverse (expanded r b w))

-- a word over base r is expanded from one over base r ^ b, but for fewer zeros after it than a group has
abbrev pub WordsArePaddedGroups : Type 0
WordsArePaddedGroups = (r b : ℕ) (w : List ℕ) → 2 ≤ r → 1 ≤ b → IsWord r w → (v : List ℕ) × (more : ℕ) × IsWord (r ^ b) v × (expanded r b v ≡ w ++ zeros more) × (more < b)
