-- The lexemes of a text of rules, one after another, each the longest possible.
use Rattle.std.specs.Prelude.{ℕ, ◌+◌, ◌-◌, ◌^◌, ◌==◌, ◌&&◌, false, if◌then◌else◌, List, [], take, drop, pos, ⊤}
use Rattle.text_grammar.specs.Bytes.{is_blank, is_digit}
use Rattle.text_grammar.specs.Numbers.{begins_with, is_short, number_len, number_of}
use Rattle.text_grammar.specs.Spots.{lexeme_of, Lexing, Spot, spots_from, tokens}
use Rattle.text_grammar.specs.Spots as cut
use Rattle.morph_words.specs.declared.lexeme.Lexeme.{Lexeme}
use Rattle.morph_words.specs.declared.lexeme.Lexeme.TheVariants.{Letter, Long, Broken, Arrow, Blank, Comma, Other}

-- what a `[` is with the bytes after it: a letter, where a number of 32 bits, signed, and a `]` follow
abbrev pub bracket : List ℕ → cut.Lexeme Lexeme
bracket bytes =
    if number_len bytes == 0
    then lexeme_of Broken 1
    else
    if is_short (2 ^ 31) (number_of (take (number_len bytes) bytes))
    then
    (if begins_with 93 (drop (number_len bytes) bytes)
    then lexeme_of (Letter (number_of (take (number_len bytes) bytes))) (number_len bytes + 2)
    else lexeme_of Broken (number_len bytes + 1))
    else lexeme_of Long (number_len bytes + 1)

-- the lexeme that begins with a byte, before others: a digit is a letter
abbrev pub lexeme : ℕ → List ℕ → cut.Lexeme Lexeme
lexeme byte bytes =
    if is_digit byte
    then lexeme_of (Letter (pos (byte - 48))) 1
    else
    if is_blank byte
    then lexeme_of Blank 1
    else
    if byte == 44
    then lexeme_of Comma 1
    else if byte == 91 then bracket bytes else if byte == 45 && begins_with 62 bytes then lexeme_of Arrow 2 else lexeme_of Other 1

-- rules are cut without a mode, and each byte is in a lexeme
abbrev pub lexing : Lexing ⊤ Lexeme
lexing = record { lexeme = λ mode at byte bytes. lexeme byte bytes; mode_after = λ mode l. mode; divides = λ b. false; ends = [] }

-- the lexemes of a text, each at its byte
abbrev pub spots : List ℕ → List (Spot Lexeme)
spots text = spots_from lexing tt 0 0 text

-- the lexemes of a text
abbrev pub lexemes : List ℕ → List Lexeme
lexemes text = tokens (spots text)
