-- The Fibonacci system: the words over 0 and 1 without 11, and the sums of their weights.
use Rattle.std.specs.Prelude.{◌≡◌, ℕ, zero, suc, ◌+◌, ◌*◌, Bool, true, false, not, ◌&&◌, nat_eq, List, [], ◌∷◌, ◌++◌, length, IsTrue, ◌↔◌}
use Rattle.digit_tuple.specs.Letters.{IsWord}
use Rattle.numeration.specs.Words.{rank}
use Rattle.numeration.specs.Systems.{System}

-- the word begins with 1
abbrev pub begins_with_1 : List ℕ → Bool
begins_with_1 [] = false
begins_with_1 (a ∷ w) = nat_eq a 1

-- each digit is 0 or 1, and no 1 comes next to another
abbrev pub is_sparse : List ℕ → Bool
is_sparse [] = true
is_sparse (zero ∷ w) = is_sparse w
is_sparse (suc zero ∷ w) = not (begins_with_1 w) && is_sparse w
is_sparse (suc (suc a) ∷ w) = false

-- the system of these words
abbrev pub fibonacci : System
fibonacci = record { digits = 2; test = is_sparse }

-- the weights 1, 2, 3, 5, .., each from 3 on the sum of the two before it
abbrev pub weight : ℕ → ℕ
weight zero = 1
weight (suc zero) = 2
weight (suc (suc n)) = weight (suc n) + weight n

-- each digit times the weight of its place, the most significant digit first
abbrev pub weight_sum : List ℕ → ℕ
weight_sum [] = 0
weight_sum (a ∷ w) = a * weight (length w) + weight_sum w

-- the rank of a word is the sum of its weights
abbrev pub RankIsWeightSum : Type 0
RankIsWeightSum = (w : List ℕ) → IsTrue (fibonacci.test w) → rank fibonacci.digits fibonacci.test w ≡ weight_sum w

-- somewhere in the word two ones are side by side
abbrev pub Has11 : List ℕ → Type 0
Has11 w = (u : List ℕ) × (v : List ℕ) × (w ≡ u ++ 1 ∷ 1 ∷ v)

-- the words of the system are those over two digits without 11
abbrev pub WordsAreWithout11 : Type 0
WordsAreWithout11 = (w : List ℕ) → IsTrue (fibonacci.test w) ↔ (IsWord 2 w × ¬ Has11 w)
