-- Base k: all words over its digits, and their positional values.
use Rattle.std.specs.Prelude.{◌≡◌, ℕ, ◌+◌, ◌*◌, ◌^◌, ◌≤◌, Bool, true, ◌&&◌, nat_lt, List, [], ◌∷◌, length}
use Rattle.digit_tuple.specs.Letters.{IsWord}
use Rattle.numeration.specs.Words.{rank}
use Rattle.numeration.specs.Systems.{System}

-- each digit is below k
abbrev pub are_digits : ℕ → List ℕ → Bool
are_digits k [] = true
are_digits k (a ∷ w) = nat_lt a k && are_digits k w

-- the system of all words over k digits
abbrev pub base : ℕ → System
base k = record { digits = k; test = are_digits k }

-- the positional value: each digit times the power of k by its place, the most significant digit first
abbrev pub value : ℕ → List ℕ → ℕ
value k [] = 0
value k (a ∷ w) = a * k ^ length w + value k w

-- in base k the rank of a word is its positional value
abbrev pub RankIsPositional : Type 0
RankIsPositional = (k : ℕ) (w : List ℕ) → 2 ≤ k → IsWord k w → rank k (are_digits k) w ≡ value k w
