-- Ranks in the Fibonacci system are sums of weights.
use Rattle.std.proofs.Common.{◌≡◌, ℕ, zero, suc, ◌+◌, ◌<◌, List, [], ◌∷◌, length, refl, sym, ◌∙◌, arith, IsTrue}
use Rattle.std.proofs.lemmas.Bool.{false≢true, and_parts}
use Rattle.numeration.specs.Systems.{IsRepresentation}
use Rattle.numeration.proofs.CountLemmas.{count_by-none}
use Rattle.numeration.proofs.BelowLemmas.{size, below, after, led_below, size-suc, below-cons, below-less}
use Rattle.numeration.proofs.RankLemmas.{rank_is_below}
use Rattle.fib_system.specs.Fibonacci.{is_sparse, fibonacci, weight, weight_sum, RankIsWeightSum}
use Rattle.fib_system.specs.FibonacciLaws.{sparse_over, fibonacci_is_system}

-- the weight one place lower, which below the lowest is 1
abbrev pub one_lower : ℕ → ℕ
one_lower zero = 1
one_lower (suc n) = weight n

-- the weight two places lower, which below the lowest two is 1 and then 0
abbrev pub two_lower : ℕ → ℕ
two_lower zero = 0
two_lower (suc n) = one_lower n

pub weight_is : (n : ℕ) → weight n ≡ one_lower n + two_lower n
weight_is zero = omega arith
weight_is (suc zero) = omega arith
weight_is (suc (suc n)) = omega arith

-- how many words of a length there are, and how many may follow a 1
sizes : (n : ℕ) → (size 2 is_sparse n ≡ weight n) × (size 2 (after is_sparse 1) n ≡ one_lower n)
sizes zero = (refl, refl)
sizes (suc n) =
    let rest = sizes n in
    let all : size 2 is_sparse (suc n) ≡ led_below 2 is_sparse n 2 = size-suc 2 is_sparse n in
    let after_1 : size 2 (after is_sparse 1) (suc n) ≡ led_below 2 (after is_sparse 1) n 2 = size-suc 2 (after is_sparse 1) n in
    let none : size 2 (after (after is_sparse 1) 1) n ≡ 0 = count_by-none 2 n (after (after is_sparse 1) 1) (λ w long. refl) in
    (omega (arith, all, rest.0, rest.1, weight_is (suc n), weight_is n), omega (arith, after_1, none, rest.0))

pub size_is_weight : (n : ℕ) → size 2 is_sparse n ≡ weight n
size_is_weight n = (sizes n).0

-- as many words of its length are less than a word as the sum of its weights says
below_is_sum : (w : List ℕ) → IsTrue (is_sparse w) → below 2 is_sparse w ≡ weight_sum w
below_is_sum [] valid = refl
below_is_sum (zero ∷ u) valid =
    let split : below 2 is_sparse (0 ∷ u) ≡ led_below 2 is_sparse (length u) 0 + below 2 (after is_sparse 0) u = below-cons 2 is_sparse 0 u (omega arith) in
    omega (arith, split, below_is_sum u valid)
below_is_sum (suc zero ∷ []) valid = refl
below_is_sum (suc zero ∷ zero ∷ u) valid =
    let split : below 2 is_sparse (1 ∷ 0 ∷ u) ≡ led_below 2 is_sparse (length (0 ∷ u)) 1 + below 2 (after is_sparse 1) (0 ∷ u) = below-cons 2 is_sparse 1 (0 ∷ u) (omega arith) in
    let again : below 2 (after is_sparse 1) (0 ∷ u) ≡ led_below 2 (after is_sparse 1) (length u) 0 + below 2 (after (after is_sparse 1) 0) u = below-cons 2 (after is_sparse 1) 0 u (omega arith) in
    omega (arith, split, again, size_is_weight (length (0 ∷ u)), below_is_sum u valid)
below_is_sum (suc zero ∷ suc zero ∷ u) valid = absurd (false≢true valid)
below_is_sum (suc zero ∷ suc (suc b) ∷ u) valid = absurd (false≢true (and_parts _ _ valid).1)
below_is_sum (suc (suc a) ∷ u) valid = absurd (false≢true valid)

pub rank_is_sum : RankIsWeightSum
rank_is_sum w valid = rank_is_below 2 is_sparse w fibonacci_is_system (sparse_over w valid) ∙ below_is_sum w valid

-- the sum of a word is less than the weight of the next higher place
pub sum_less : (w : List ℕ) → IsTrue (is_sparse w) → weight_sum w < weight (length w)
sum_less w valid =
    let less : below 2 is_sparse w < size 2 is_sparse (length w) = below-less 2 is_sparse w (sparse_over w valid) valid in
    omega (arith, less, below_is_sum w valid, size_is_weight (length w))

-- each word of the system represents its sum alone
pub sum_represents : (w : List ℕ) (n : ℕ) → IsTrue (is_sparse w) → weight_sum w ≡ n → IsRepresentation fibonacci w n
sum_represents w n valid is = (valid, rank_is_sum w valid ∙ is)

pub represented_sum : (w : List ℕ) (n : ℕ) → IsRepresentation fibonacci w n → weight_sum w ≡ n
represented_sum w n representation = sym (rank_is_sum w representation.0) ∙ representation.1
