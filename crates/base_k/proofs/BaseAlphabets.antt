-- One track over a base has an alphabet, and so have three.
use Rattle.std.proofs.Common.{ℕ, ◌*◌, ◌≤◌, [], ◌∷◌, arith}
use Rattle.std.proofs.lemmas.Nat.{mul-le}
use Rattle.digit_tuple.specs.Letters.{IsAlphabet}

pub three_fit : (k : ℕ) → k ≤ 40 → IsAlphabet (k ∷ k ∷ k ∷ [])
three_fit k most =
    let one : k * 1 ≤ 40 * 1 = mul-le k 1 40 1 most (omega arith) in
    let two : k * (k * 1) ≤ 40 * (40 * 1) = mul-le k (k * 1) 40 (40 * 1) most one in
    let three : k * (k * (k * 1)) ≤ 40 * (40 * (40 * 1)) = mul-le k (k * (k * 1)) 40 (40 * (40 * 1)) most two in
    record { tracks = omega arith; letters = omega (arith, three) }

pub one_fits : (k : ℕ) → k ≤ 40 → IsAlphabet (k ∷ [])
one_fits k most = record { tracks = omega arith; letters = omega (arith, most) }
