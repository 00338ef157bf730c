-- The lexemes of the text of a place, one after another, each the longest possible.
use Rattle.std.specs.Prelude.{ℕ, ◌^◌, ◌==◌, false, if◌then◌else◌, List, [], ◌∷◌, take, ⊤}
use Rattle.text_grammar.specs.Numbers.{begins_with, is_short, number_len, number_of}
use Rattle.text_grammar.specs.Spots.{lexeme_of, Lexing, Spot, spots_from, tokens}
use Rattle.text_grammar.specs.Spots as cut
use Rattle.place_text.specs.declared.lexeme.Lexeme.{Lexeme}
use Rattle.place_text.specs.declared.lexeme.Lexeme.TheVariants.{Open, Close, Comma, Number, Long, Sign, Other}

-- a `-`, or another byte
abbrev pub no_number : List ℕ → Lexeme
no_number bytes = if begins_with 45 bytes then Sign else Other

-- a number, which fits 32 bits, signed, or does not
abbrev pub number : List ℕ → cut.Lexeme Lexeme
number bytes =
    if number_len bytes == 0
    then lexeme_of (no_number bytes) 1
    else
    if is_short (2 ^ 31) (number_of (take (number_len bytes) bytes))
    then lexeme_of (Number (number_of (take (number_len bytes) bytes))) (number_len bytes)
    else lexeme_of Long (number_len bytes)

-- the lexeme that bytes begin with
abbrev pub lexeme : List ℕ → cut.Lexeme Lexeme
lexeme bytes =
    if begins_with 91 bytes
    then lexeme_of Open 1
    else if begins_with 93 bytes then lexeme_of Close 1 else if begins_with 44 bytes then lexeme_of Comma 1 else number bytes

-- places are cut without a mode, and each byte is in a lexeme
abbrev pub lexing : Lexing ⊤ Lexeme
lexing = record { lexeme = λ mode at byte bytes. lexeme (byte ∷ bytes); mode_after = λ mode l. mode; divides = λ b. false; ends = [] }

-- the lexemes of a text, each at its byte
abbrev pub spots : List ℕ → List (Spot Lexeme)
spots text = spots_from lexing tt 0 0 text

-- the lexemes of a text
abbrev pub lexemes : List ℕ → List Lexeme
lexemes text = tokens (spots text)
