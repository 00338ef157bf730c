-- The tokens of a text, each at its byte. Blanks divide them, and each is the longest that its first byte begins.
use Rattle.std.specs.Prelude.{ℕ, ◌+◌, ◌^◌, min, nat_le, ◌==◌, ◌&&◌, if◌then◌else◌, List, [], ◌∷◌, take, drop, slice_index}
use Rattle.text_grammar.specs.declared.class.Class.TheVariants.{Alphanumeric, Digit, NameByte}
use Rattle.text_grammar.specs.Bytes.{is_blank, is_digit, is_letter}
use Rattle.text_grammar.specs.Prefixes.{begins_in, prefix_len, prefix_of}
use Rattle.text_grammar.specs.Numbers.{value_of}
use Rattle.text_grammar.specs.Systems.{is_direction}
use Rattle.text_grammar.specs.Spots.{Lexeme, lexeme_of, Lexing, Spot, spots_from}
use Rattle.formula_parse.specs.Tokens.{Name, Token, name, number, system, called, mark, call_sign, negation, quantifier, some, every, infinite, comma, opening, closing, bracket, unbracket, letter_sign, sign, plus, minus, times, slash, relation, equal, unequal, less, greater, at_most, at_least, connective, and, or, xor, implies, iff, other, end}

-- What comes before a token: a system may follow `?`, and a name `$`.
pub data Mode : Type 0 where
  plain : Mode
  after_mark : Mode
  after_call : Mode

abbrev pub mode_after : Token → Mode
mode_after mark = after_mark
mode_after call_sign = after_call
mode_after _ = plain

-- a byte that begins no token, or a name or system that is too long
abbrev pub no_lexeme : Lexeme Token
no_lexeme = lexeme_of other 1

-- the longest prefix of letters, digits and `_`: a name of at most 64 bytes
abbrev pub name_lexeme : (Name → Token) → List ℕ → Lexeme Token
name_lexeme make text =
    if nat_le (prefix_len NameByte text) 64
    then lexeme_of (make (prefix_of NameByte text)) (prefix_len NameByte text)
    else no_lexeme

-- the longest prefix of digits: a numeral; 2 ^ 64 means each that is no less
abbrev pub number_lexeme : List ℕ → Lexeme Token
number_lexeme text = lexeme_of (number (min (value_of (prefix_of Digit text)) (2 ^ 64))) (prefix_len Digit text)

-- `E`, `A`, `I`, or a variable or a word
abbrev pub letter_lexeme : List ℕ → Lexeme Token
letter_lexeme text =
    if slice_index text 0 == 69
    then lexeme_of (quantifier some) 1
    else
    if slice_index text 0 == 65
    then lexeme_of (quantifier every) 1
    else if slice_index text 0 == 73 then lexeme_of (quantifier infinite) 1 else name_lexeme name text

-- the sign that a byte is, whatever follows
abbrev pub sign_token : ℕ → ℕ → Token
sign_token at b =
    if b == 126
    then negation
    else
    if b == 63
    then mark
    else
    if b == 36
    then call_sign
    else
    if b == 64
    then letter_sign at
    else
    if b == 38
    then connective and at
    else
    if b == 124
    then connective or at
    else
    if b == 94
    then connective xor at
    else
    if b == 43
    then sign plus
    else
    if b == 45
    then sign minus
    else
    if b == 42
    then times at
    else
    if b == 47
    then slash
    else
    if b == 40
    then opening
    else
    if b == 41
    then closing
    else if b == 91 then bracket else if b == 93 then unbracket else if b == 44 then comma else other

-- a sign, by its first three bytes
abbrev pub sign_lexeme : ℕ → ℕ → ℕ → ℕ → Lexeme Token
sign_lexeme at b c d =
    if b == 60
    then (if c == 61 then (if d == 62 then lexeme_of iff 3 else lexeme_of (relation at_most) 2) else lexeme_of (relation less) 1)
    else
    if b == 62
    then (if c == 61 then lexeme_of (relation at_least) 2 else lexeme_of (relation greater) 1)
    else
    if b == 61
    then (if c == 62 then lexeme_of (implies at) 2 else lexeme_of (relation equal) 1)
    else if b == 33 then (if c == 61 then lexeme_of (relation unequal) 2 else no_lexeme) else lexeme_of (sign_token at b) 1

-- a token where neither a system nor a called name is looked for
abbrev pub plain_lexeme : ℕ → List ℕ → Lexeme Token
plain_lexeme at text =
    if is_digit (slice_index text 0)
    then number_lexeme text
    else
    if is_letter (slice_index text 0)
    then letter_lexeme text
    else sign_lexeme at (slice_index text 0) (slice_index text 1) (slice_index text 2)

-- the length of the prefix that is a system `msd_..` or `lsd_..`; 0 if there is none
abbrev pub system_len : List ℕ → ℕ
system_len text = if is_direction (take 4 text) && begins_in Alphanumeric (drop 4 text) then prefix_len Alphanumeric (drop 4 text) + 4 else 0

-- a system of at most 62 bytes
abbrev pub system_lexeme : List ℕ → Lexeme Token
system_lexeme text =
    if nat_le (system_len text) 62 then lexeme_of (system (take (system_len text) text)) (system_len text) else no_lexeme

-- the token that comes first in the rest of a text, which begins at a byte
abbrev pub lexeme : Mode → ℕ → List ℕ → Lexeme Token
lexeme plain at text = plain_lexeme at text
lexeme after_mark at text = if system_len text == 0 then plain_lexeme at text else system_lexeme text
lexeme after_call at text = if is_letter (slice_index text 0) then name_lexeme called text else plain_lexeme at text

-- how formulas are cut
abbrev pub lexing : Lexing Mode Token
lexing = record { lexeme = λ m at b bs. lexeme m at (b ∷ bs); mode_after = λ m t. mode_after t; divides = is_blank; ends = end ∷ [] }

-- the tokens of a text, and its end
abbrev pub spots : List ℕ → List (Spot Token)
spots text = spots_from lexing plain 0 0 text
