-- Numbers as files have them: decimal digits, at least one, with any zeros before them, and no `+`.
use Rattle.std.specs.Prelude.{ℕ, ◌^◌, nat_lt, ◌&&◌, if◌then◌else◌, ℤ, List, Option, None, Some}
use Rattle.text_grammar.specs.Numbers.{are_digits, is_number, is_short, number_of, value_of}

-- a number that is below a limit
abbrev pub number_below : ℕ → List ℕ → Option ℕ
number_below limit bytes = if are_digits bytes && nat_lt (value_of bytes) limit then Some (value_of bytes) else None

-- a signed number of 32 bits: a `-` before the digits makes it negative
abbrev pub integer_of : List ℕ → Option ℤ
integer_of bytes = if is_number bytes && is_short (2 ^ 31) (number_of bytes) then Some (number_of bytes) else None
