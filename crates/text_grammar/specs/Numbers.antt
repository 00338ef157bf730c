-- Whole numbers: decimal digits, with an optional `-` directly before them.
use Rattle.std.specs.Prelude.{ℕ, ◌+◌, ◌*◌, ◌-◌, ◌==◌, nat_lt, Bool, false, not, ◌&&◌, if◌then◌else◌, List, [], ◌∷◌, length, drop, ℤ, pos, negsuc, neg_ℤ}
use Rattle.text_grammar.specs.declared.class.Class.TheVariants.{Digit}
use Rattle.text_grammar.specs.Prefixes.{prefix_len, all_in}

-- whether the first byte is this one
abbrev pub begins_with : ℕ → List ℕ → Bool
begins_with byte [] = false
begins_with byte (b ∷ bs) = b == byte

-- the number that digits denote, after those that denote the number so far
abbrev pub value_after : ℕ → List ℕ → ℕ
value_after so_far [] = so_far
value_after so_far (digit ∷ digits) = value_after (10 * so_far + (digit - 48)) digits

-- the number that digits denote
abbrev pub value_of : List ℕ → ℕ
value_of digits = value_after 0 digits

-- a number, or its negative
abbrev pub signed : Bool → ℕ → ℤ
signed negative n = if negative then neg_ℤ (pos n) else pos n

-- a number from minus the bound to one below the bound: with the bound 2 ^ 31 a number of 32 bits, signed
abbrev pub is_short : ℕ → ℤ → Bool
is_short bound (pos n) = nat_lt n bound
is_short bound (negsuc n) = nat_lt n bound

-- what follows the sign, if there is one
abbrev pub unsigned : List ℕ → List ℕ
unsigned bytes = if begins_with 45 bytes then drop 1 bytes else bytes

-- whether these bytes are digits, at least one
abbrev pub are_digits : List ℕ → Bool
are_digits bytes = not (length bytes == 0) && all_in Digit bytes

-- whether these bytes are a number: digits, at least one, after a sign or none
abbrev pub is_number : List ℕ → Bool
is_number bytes = are_digits (unsigned bytes)

-- the number that they denote
abbrev pub number_of : List ℕ → ℤ
number_of bytes = signed (begins_with 45 bytes) (value_of (unsigned bytes))

-- how long the number is with which the bytes begin, or 0 if they begin with none
abbrev pub number_len : List ℕ → ℕ
number_len bytes = if prefix_len Digit (unsigned bytes) == 0 then 0 else (if begins_with 45 bytes then 1 else 0) + prefix_len Digit (unsigned bytes)
