-- Limits: a numeral is below 2 ^ 64, a letter is a signed 32-bit number, and no token is within more than 128.
use Rattle.std.specs.Prelude.{ℕ, ◌+◌, ◌^◌, ◌<◌, ◌≤◌, Bool, true, false, ⊤}
use Rattle.formula_parse.specs.Tokens.{number, Placed, here, value_of, nesting_of}

abbrev pub letter_bound : Bool → ℕ
letter_bound true = 2 ^ 31 + 1
letter_bound false = 2 ^ 31

abbrev pub IsInRange : Placed → Type 0
IsInRange (here (number n) d) = n < 2 ^ 64
IsInRange (value_of l d) = l.value < letter_bound l.negative
IsInRange (here _ d) = ⊤

abbrev pub IsAllowed : Placed → Type 0
IsAllowed p = (nesting_of p ≤ 128) × IsInRange p

-- where a number out of its range is reported: a numeral at its byte, a letter at its `@`
abbrev pub fault_byte : Placed → ℕ → ℕ
fault_byte (here t d) b = b
fault_byte (value_of l d) b = l.at
