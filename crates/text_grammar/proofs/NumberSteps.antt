-- The number that digits denote, digit by digit.
use Rattle.std.proofs.Common.{◌≡◌, ℕ, ◌+◌, ◌*◌, ◌-◌, ◌<◌, ◌≤◌, suc, List, [], ◌∷◌, length, get_or, drop, sym, ◌∙◌, ap, arith, drop-cons}
use Rattle.text_grammar.specs.Numbers.{value_after, value_of}

-- further digits make no number smaller
pub value_after-ge : (n : ℕ) (digits : List ℕ) → n ≤ value_after n digits
value_after-ge n [] = omega arith
value_after-ge n (digit ∷ digits) =
    let more : 10 * n + (digit - 48) ≤ value_after (10 * n + (digit - 48)) digits = value_after-ge (10 * n + (digit - 48)) digits in
    omega arith

-- a number is no smaller than what its first digits denote
pub value_reaches : (n i : ℕ) (digits : List ℕ) → i < length digits → value_after n (drop i digits) ≡ value_of digits → 10 * n + (get_or digits i 0 - 48) ≤ value_of digits
value_reaches n i digits inside value_is =
    let split = ap (value_after n) (drop-cons digits i 0 inside) in
    let more = value_after-ge (10 * n + (get_or digits i 0 - 48)) (drop (suc i) digits) in
    let rest : value_after (10 * n + (get_or digits i 0 - 48)) (drop (suc i) digits) ≡ value_of digits = sym split ∙ value_is in
    omega (arith, more, rest)
