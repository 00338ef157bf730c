-- The parts of a command's text, from left to right. Blanks may be between them. Each is the longest possible, and a blank comes before
-- each that begins with a letter.
use Rattle.std.specs.Prelude.{ℕ, zero, suc, ◌+◌, ◌-◌, min, nat_le, Bool, not, ◌||◌, ◌&&◌, if◌then◌else◌, List, [], ◌∷◌, length, take, drop, map, codes}
use Rattle.std.specs.Str.{bytes_eq}
use Rattle.text_grammar.specs.declared.class.Class.TheVariants.{Blank, Digit, Letter, NameByte, Unquoted, Word}
use Rattle.text_grammar.specs.Prefixes.{all_in, begins_in, after_prefix, prefix_len, prefix_of}
use Rattle.text_grammar.specs.Numbers.{begins_with, number_len, unsigned}

-- the longest prefix of a text that has neither a blank nor a quote
abbrev pub first_word_of : List ℕ → List ℕ
first_word_of text = prefix_of Word text

-- what follows the leading blanks
abbrev pub after_blanks : List ℕ → List ℕ
after_blanks bytes = after_prefix Blank bytes

-- `=` and a number
abbrev pub begins_with_value : List ℕ → Bool
begins_with_value bytes = begins_with 61 bytes && begins_in Digit (unsigned (drop 1 bytes))

-- `.txt`
abbrev pub begins_with_ending : List ℕ → Bool
begins_with_ending bytes = begins_with 46 bytes && (begins_with 116 (drop 1 bytes) && (begins_with 120 (drop 2 bytes) && begins_with 116 (drop 3 bytes)))

-- how much of what follows a name is of the same part: `NAME=V` and `NAME.txt` are one
abbrev pub ending_len : List ℕ → ℕ
ending_len bytes = if begins_with_value bytes then 1 + number_len (drop 1 bytes) else if begins_with_ending bytes then 4 else 0

-- how long a text in quotes is, which ends with the text where it lacks its second quote
abbrev pub quoted_len : List ℕ → ℕ
quoted_len bytes = min (prefix_len Unquoted (drop 1 bytes) + 2) (length bytes)

-- How long the part is that comes first: a name with what belongs to it, a number, a text in quotes, or one byte.
unfoldable pub part_len : List ℕ → ℕ
part_len bytes =
    if begins_in Letter bytes
    then prefix_len NameByte bytes + ending_len (after_prefix NameByte bytes)
    else if begins_in Digit (unsigned bytes) then number_len bytes else if begins_with 34 bytes then quoted_len bytes else 1

-- what follows the part that comes first
abbrev pub after_first : List ℕ → List ℕ
after_first rest = drop (part_len rest) rest

-- The part that comes first, where a blank comes before it or none does. A part that begins with a letter and lacks the blank before it is
-- empty, and no form takes it.
unfoldable pub first_in : Bool → List ℕ → List ℕ
first_in blank rest = if begins_in Letter rest && not blank then [] else take (part_len rest) rest

-- a part, and the byte of the text where it begins
pub record Part : Type 0 where
  pub at : ℕ
  pub bytes : List ℕ

-- The parts of the rest of a text that has `whole` bytes, where the rest begins with no blank, and a blank comes before it or none does;
-- they are at most so many.
unfoldable pub parts_of_rest : ℕ → ℕ → Bool → List ℕ → List Part
parts_of_rest zero whole blank rest = []
parts_of_rest (suc count) whole blank [] = []
parts_of_rest (suc count) whole blank (b ∷ bs) =
    record { at = whole - length (b ∷ bs); bytes = first_in blank (b ∷ bs) }
    ∷ parts_of_rest count whole (begins_in Blank (after_first (b ∷ bs))) (after_blanks (after_first (b ∷ bs)))

-- what follows the first word
abbrev pub after_word : List ℕ → List ℕ
after_word text = after_prefix Word text

-- the parts of a text: its first word, and those after it
unfoldable pub parts_of : List ℕ → List Part
parts_of text =
    record { at = 0; bytes = first_word_of text }
    ∷ parts_of_rest (length text) (length text) (begins_in Blank (after_word text)) (after_blanks (after_word text))

-- the parts, without their places
abbrev pub texts_of : List Part → List (List ℕ)
texts_of parts = map (λ (p : Part). p.bytes) parts

-- a letter, and then letters, digits and `_`, at most 64 bytes in all
abbrev pub is_name : List ℕ → Bool
is_name part = begins_in Letter part && (all_in NameByte part && nat_le (length part) 64)

-- a name that begins with none of `A`, `E` and `I`
abbrev pub is_word : List ℕ → Bool
is_word part = is_name part && not (begins_with 65 part || (begins_with 69 part || begins_with 73 part))

-- where the number of a part begins: after a name and `=`, or at the part's first byte
unfoldable pub number_place : List ℕ → ℕ
number_place part = if begins_in Letter part && begins_with 61 (after_prefix NameByte part) then prefix_len NameByte part + 1 else 0

-- a quote, other bytes, and a quote
abbrev pub is_quoted : List ℕ → Bool
is_quoted part = begins_with 34 part && bytes_eq (after_prefix Unquoted (drop 1 part)) (codes "\"")

-- what is in the quotes
abbrev pub unquoted : List ℕ → List ℕ
unquoted part = prefix_of Unquoted (drop 1 part)
