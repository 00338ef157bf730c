-- Kinds of bytes.
use Rattle.std.specs.Prelude.{ℕ, nat_le, ◌==◌, Bool, ◌||◌, ◌&&◌}

-- space, tab, carriage return, line feed
abbrev pub is_blank : ℕ → Bool
is_blank b = b == 32 || b == 9 || b == 13 || b == 10

-- a line feed
abbrev pub is_line_end : ℕ → Bool
is_line_end b = b == 10

-- `0` to `9`
abbrev pub is_digit : ℕ → Bool
is_digit b = nat_le 48 b && nat_le b 57

-- `A` to `Z` or `a` to `z`
abbrev pub is_letter : ℕ → Bool
is_letter b = (nat_le 65 b && nat_le b 90) || (nat_le 97 b && nat_le b 122)

-- a letter or a digit
abbrev pub is_alphanumeric : ℕ → Bool
is_alphanumeric b = is_letter b || is_digit b

-- a letter, a digit or `_`
abbrev pub is_name_byte : ℕ → Bool
is_name_byte b = is_letter b || is_digit b || b == 95
