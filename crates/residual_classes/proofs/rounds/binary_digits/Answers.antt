use Rattle.std.proofs.Common.{ℕ, ◌+◌, ◌*◌, ◌<◌, ◌≤◌, ◌^◌, ◌⊎◌, inl, inr, subst, arith}
use Rattle.std.proofs.lemmas.Bool.{cases_lt}
use Rattle.std.proofs.lemmas.Nat.{leading_length, pow-add}
use Rattle.residual_classes.proofs.PaidLemmas.{exponent_le}
use Rattle.residual_classes.proofs.rounds.binary_digits.Goals as goal

pub returns-clause-enough : goal.returns-clause-enough
returns-clause-enough c =
    let n = c.args.number in
    let found = leading_length 32 n (omega (arith, c.ranges.number.fits)) in
    subst (λ (k : ℕ). n < 2 ^ k) (omega (arith, found.1)) found.2

pub returns-clause-least : goal.returns-clause-least
returns-clause-least c b less =
    let n = c.args.number in
    let found = leading_length 32 n (omega (arith, c.ranges.number.fits)) in
    omega (arith, found.1, least found.0 b n less found.3 (cases_lt b found.0))
  where
    least : (m b n : ℕ) → n < 2 ^ b → 2 ^ m ≤ 2 * n + 1 → (b < m) ⊎ (m ≤ b) → m ≤ b
    least m b n less most (inr fine) = fine
    least m b n less most (inl more) = absurd (omega (arith, less, most, exponent_le 2 (b + 1) m (omega arith) (omega (arith, more)), pow-add 2 b 1))
