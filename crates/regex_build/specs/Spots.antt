-- The tokens of a text, each at its byte. Blanks are skipped, and a number in brackets is the longest possible.
use Rattle.std.specs.Prelude.{ℕ, ◌+◌, ◌-◌, min, ◌==◌, Bool, true, false, ◌&&◌, if◌then◌else◌, List, [], ◌∷◌, map, length, slice_index_or, codes}
use Rattle.std.specs.List.{filter}
use Rattle.text_grammar.specs.declared.class.Class.TheVariants.{Blank, Digit, DigitOrBlank}
use Rattle.text_grammar.specs.Bytes.{is_blank, is_digit}
use Rattle.text_grammar.specs.Prefixes.{begins_in, after_prefix, prefix_len, prefix_of}
use Rattle.text_grammar.specs.Numbers.{signed, value_of}
use Rattle.text_grammar.specs.Signs.{sign_of}
use Rattle.text_grammar.specs.Spots.{Lexeme, lexeme_of, Lexing, Spot, spots_from}
use Rattle.text_grammar.specs.Spots as cut
use Rattle.regex_build.specs.Tokens.{Token, bar, star, plus, optional, dot, opening, closing, bracket, comma, unbracket, digit, number, other}

-- the signs, each with its token
abbrev pub signs : List (List ℕ × Token)
signs =
    (codes "|", bar)
    ∷ (codes "*", star)
    ∷ (codes "+", plus)
    ∷ (codes "?", optional)
    ∷ (codes ".", dot)
    ∷ (codes "(", opening)
    ∷ (codes ")", closing)
    ∷ (codes "[", bracket)
    ∷ (codes ",", comma)
    ∷ (codes "]", unbracket)
    ∷ []

-- a number, whose digits blanks may divide, after a sign of so many bytes; 2 ^ 32 - 1 means each distance from 0 that is greater
abbrev pub number_lexeme : Bool → ℕ → List ℕ → Lexeme Token
number_lexeme negative sign bytes =
    lexeme_of (number (signed negative (min (value_of (filter is_digit (prefix_of DigitOrBlank bytes))) 4294967295))) (sign + prefix_len DigitOrBlank bytes)

-- the token with which bytes begin, inside of brackets or not; a `-` is of its number
abbrev pub lexeme : Bool → List ℕ → Lexeme Token
lexeme inside [] = lexeme_of other 1
lexeme true (b ∷ bs) =
    if is_digit b
    then number_lexeme false 0 (b ∷ bs)
    else if b == 45 && begins_in Digit (after_prefix Blank bs) then number_lexeme true 1 bs else sign_of signs other (b ∷ bs)
lexeme false (b ∷ bs) = if is_digit b then lexeme_of (digit (b - 48)) 1 else sign_of signs other (b ∷ bs)

-- whether a bracket is open after a token
abbrev pub inside_after : Bool → Token → Bool
inside_after inside bracket = true
inside_after inside unbracket = false
inside_after inside _ = inside

-- how expressions are cut
abbrev pub lexing : Lexing Bool Token
lexing = record { lexeme = λ inside at b bs. lexeme inside (b ∷ bs); mode_after = inside_after; divides = is_blank; ends = [] }

-- the tokens of a text, each at its byte
abbrev pub spots : List ℕ → List (Spot Token)
spots text = spots_from lexing false 0 0 text

-- the tokens of a text
abbrev pub tokens : List ℕ → List Token
tokens text = cut.tokens (spots text)

-- the byte of a token, or the text's length after the last
abbrev pub byte_of : List ℕ → ℕ → ℕ
byte_of text i = slice_index_or (map (λ (s : Spot Token). s.at) (spots text)) i (length text)
