-- The longest prefix of a text whose bytes are of one class.
use Rattle.std.specs.Prelude.{ℕ, suc, ◌==◌, Bool, false, not, ◌||◌, ◌&&◌, if◌then◌else◌, List, [], ◌∷◌, length, take, drop}
use Rattle.text_grammar.specs.declared.class.Class.{Class}
use Rattle.text_grammar.specs.declared.class.Class.TheVariants.{Blank, Digit, Letter, DigitOrBlank, Alphanumeric, NameByte, Word, Unquoted}
use Rattle.text_grammar.specs.Bytes.{is_blank, is_digit, is_letter, is_alphanumeric, is_name_byte}

-- whether a byte is of a class
abbrev pub is_in : Class → ℕ → Bool
is_in Blank b = is_blank b
is_in Digit b = is_digit b
is_in Letter b = is_letter b
is_in DigitOrBlank b = is_digit b || is_blank b
is_in Alphanumeric b = is_alphanumeric b
is_in NameByte b = is_name_byte b
is_in Word b = not (is_blank b) && not (b == 34)
is_in Unquoted b = not (b == 34)

-- whether the first byte is of a class
abbrev pub begins_in : Class → List ℕ → Bool
begins_in class [] = false
begins_in class (b ∷ bs) = is_in class b

-- the length of the longest prefix of a class
abbrev pub prefix_len : Class → List ℕ → ℕ
prefix_len class [] = 0
prefix_len class (b ∷ bs) = if is_in class b then suc (prefix_len class bs) else 0

-- the longest prefix of a class
abbrev pub prefix_of : Class → List ℕ → List ℕ
prefix_of class bytes = take (prefix_len class bytes) bytes

-- what comes after them
abbrev pub after_prefix : Class → List ℕ → List ℕ
after_prefix class bytes = drop (prefix_len class bytes) bytes

-- whether all bytes are of a class
abbrev pub all_in : Class → List ℕ → Bool
all_in class bytes = prefix_len class bytes == length bytes
