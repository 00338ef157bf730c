-- The Fibonacci system is a numeration system.
use Rattle.std.specs.Prelude.{◌≡◌, ℕ, zero, suc, List, [], ◌∷◌, length, IsTrue}
use Rattle.std.proofs.Common.{refl, ap, arith}
use Rattle.std.proofs.lemmas.Bool.{false≢true, and_parts}
use Rattle.digit_tuple.specs.Letters.{IsWord}
use Rattle.digit_tuple.specs.Paddings.{zeros}
use Rattle.numeration.specs.Systems.{IsSystem}
use Rattle.fib_system.specs.Fibonacci.{is_sparse, fibonacci}

-- a word of the system is over two digits
pub sparse_over : (w : List ℕ) → IsTrue (is_sparse w) → IsWord 2 w
sparse_over [] valid = tt
sparse_over (zero ∷ w) valid = (omega arith, sparse_over w valid)
sparse_over (suc zero ∷ w) valid = (omega arith, sparse_over w (and_parts _ _ valid).1)
sparse_over (suc (suc a) ∷ w) valid = absurd (false≢true valid)

zeros_sparse : (n : ℕ) → IsTrue (is_sparse (zeros n))
zeros_sparse zero = refl
zeros_sparse (suc n) = zeros_sparse n

-- 1 before zeros
one_sparse : (n : ℕ) → IsTrue (is_sparse (1 ∷ zeros n))
one_sparse zero = refl
one_sparse (suc n) = zeros_sparse n

count_zeros : (n : ℕ) → length (zeros n) ≡ n
count_zeros zero = refl
count_zeros (suc n) = ap suc (count_zeros n)

pub fibonacci_is_system : IsSystem fibonacci
fibonacci_is_system = record {
  over = sparse_over;
  empty = refl;
  zeros = λ w. (λ valid. valid, λ valid. valid);
  endless = λ n. (1 ∷ zeros n, omega (arith, count_zeros n), one_sparse n, refl);
}
