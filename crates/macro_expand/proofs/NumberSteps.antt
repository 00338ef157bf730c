-- The number that digits denote, digit by digit.
use Rattle.std.proofs.Common.{◌≡◌, ℕ, suc, ◌+◌, ◌*◌, ◌-◌, ◌<◌, min, List, [], ◌∷◌, length, get_or, drop, arith, drop-cons}
use Rattle.text_grammar.specs.Numbers.{value_after}

-- digits after numbers that are the same up to a bound
value_capped : (v w : ℕ) (digits : List ℕ) → min v 18446744073709551615 ≡ min w 18446744073709551615 → min (value_after v digits) 18446744073709551615 ≡ min (value_after w digits) 18446744073709551615
value_capped v w [] e = e
value_capped v w (d ∷ ds) e = value_capped (10 * v + (d - 48)) (10 * w + (d - 48)) ds (omega arith)

-- one digit more
pub value_digit : (v w i : ℕ) (digits : List ℕ) → i < length digits → min w 18446744073709551615 ≡ min (10 * v + (get_or digits i 0 - 48)) 18446744073709551615
    → min (value_after w (drop (i + 1) digits)) 18446744073709551615 ≡ min (value_after v (drop i digits)) 18446744073709551615
value_digit v w i digits inside e =
    let next : i + 1 ≡ suc i = omega arith in
    rw (drop-cons digits i 0, next) (value_capped w (10 * v + (get_or digits i 0 - 48)) (drop (suc i) digits) e)
