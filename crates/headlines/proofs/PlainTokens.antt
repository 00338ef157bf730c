-- The tokens of a text without `$` and `[`.
use Rattle.std.proofs.Common.{◌≢◌, ℕ, zero, suc, ◌+◌, ◌-◌, ◌==◌, nat_le, Bool, true, false, if◌then◌else◌, List, [], ◌∷◌}
use Rattle.std.specs.Prelude.{⊤, slice_index}
use Rattle.std.specs.List.{AllByRecursion}
use Rattle.std.proofs.lemmas.Bool.{ne_eqb}
use Rattle.text_grammar.specs.Bytes.{is_blank, is_digit, is_letter}
use Rattle.text_grammar.specs.Spots.{Lexeme, lexeme_of, Spot, spots_from, tokens}
use Rattle.formula_parse.specs.Tokens.{Token, quantifier, some, every, infinite, name, called, call_sign, bracket}
use Rattle.formula_parse.specs.Spots.{Mode, plain, after_mark, after_call, mode_after, no_lexeme, name_lexeme, number_lexeme, letter_lexeme, sign_token, sign_lexeme, plain_lexeme, system_len, system_lexeme, lexeme, lexing, spots}
use Rattle.headlines.specs.Sentences.{HasNo}

-- the token names no automaton and indexes no word
abbrev pub IsNameless : Token → Type 0
IsNameless call_sign = ⊥
IsNameless bracket = ⊥
IsNameless _ = ⊤

-- of two that are none, each is none
one_of : (b : Bool) (t u : Token) → IsNameless t → IsNameless u → IsNameless (if b then t else u)
one_of true t u first second = first
one_of false t u first second = second

abbrev Quiet : Lexeme Token → Type 0
Quiet l = IsNameless l.token

quiet_of : (b : Bool) (l m : Lexeme Token) → Quiet l → Quiet m → Quiet (if b then l else m)
quiet_of true l m first second = first
quiet_of false l m first second = second

sign_nameless : (at b : ℕ) → b ≢ 36 → b ≢ 91 → IsNameless (sign_token at b)
sign_nameless at b call index =
    rw (ne_eqb b 36 call, ne_eqb b 91 index)
    (one_of (b == 126) _ _ tt (one_of (b == 63) _ _ tt (one_of (b == 64) _ _ tt (one_of (b == 38) _ _ tt (one_of (b == 124) _ _ tt (one_of (b == 94) _ _ tt
    (one_of (b == 43) _ _ tt (one_of (b == 45) _ _ tt (one_of (b == 42) _ _ tt (one_of (b == 47) _ _ tt (one_of (b == 40) _ _ tt (one_of (b == 41) _ _ tt
    (one_of (b == 93) _ _ tt (one_of (b == 44) _ _ tt tt))))))))))))))

sign_quiet : (at b c d : ℕ) → b ≢ 36 → b ≢ 91 → Quiet (sign_lexeme at b c d)
sign_quiet at b c d call index =
    quiet_of (b == 60) _ _ (quiet_of (c == 61) _ _ (quiet_of (d == 62) _ _ tt tt) tt)
    (quiet_of (b == 62) _ _ (quiet_of (c == 61) _ _ tt tt)
    (quiet_of (b == 61) _ _ (quiet_of (c == 62) _ _ tt tt)
    (quiet_of (b == 33) _ _ (quiet_of (c == 61) _ _ tt tt) (sign_nameless at b call index))))

name_quiet : (make : List ℕ → Token) → ((n : List ℕ) → IsNameless (make n)) → (text : List ℕ) → Quiet (name_lexeme make text)
name_quiet make quiet text = quiet_of (nat_le _ 64) (lexeme_of (make _) _) no_lexeme (quiet _) tt

letter_quiet : (text : List ℕ) → Quiet (letter_lexeme text)
letter_quiet text =
    quiet_of (slice_index text 0 == 69) (lexeme_of (quantifier some) 1) (if slice_index text 0 == 65 then lexeme_of (quantifier every) 1 else if slice_index text 0 == 73 then lexeme_of (quantifier infinite) 1 else name_lexeme name text) tt
    (quiet_of (slice_index text 0 == 65) (lexeme_of (quantifier every) 1) (if slice_index text 0 == 73 then lexeme_of (quantifier infinite) 1 else name_lexeme name text) tt
    (quiet_of (slice_index text 0 == 73) (lexeme_of (quantifier infinite) 1) (name_lexeme name text) tt (name_quiet name (λ n. tt) text)))

plain_quiet : (at b : ℕ) (bs : List ℕ) → b ≢ 36 → b ≢ 91 → Quiet (plain_lexeme at (b ∷ bs))
plain_quiet at b bs call index =
    quiet_of (is_digit b) (number_lexeme (b ∷ bs)) _ tt (quiet_of (is_letter b) (letter_lexeme (b ∷ bs)) (sign_lexeme at b (slice_index (b ∷ bs) 1) (slice_index (b ∷ bs) 2)) (letter_quiet (b ∷ bs)) (sign_quiet at b (slice_index (b ∷ bs) 1) (slice_index (b ∷ bs) 2) call index))

system_quiet : (text : List ℕ) → Quiet (system_lexeme text)
system_quiet text = quiet_of (nat_le (system_len text) 62) _ no_lexeme tt tt

lexeme_quiet : (mode : Mode) (at b : ℕ) (bs : List ℕ) → b ≢ 36 → b ≢ 91 → Quiet (lexeme mode at (b ∷ bs))
lexeme_quiet plain at b bs call index = plain_quiet at b bs call index
lexeme_quiet after_mark at b bs call index = quiet_of (system_len (b ∷ bs) == 0) (plain_lexeme at (b ∷ bs)) (system_lexeme (b ∷ bs)) (plain_quiet at b bs call index) (system_quiet (b ∷ bs))
lexeme_quiet after_call at b bs call index = quiet_of (is_letter b) (name_lexeme called (b ∷ bs)) (plain_lexeme at (b ∷ bs)) (name_quiet called (λ n. tt) (b ∷ bs)) (plain_quiet at b bs call index)

-- a blank is passed, and another byte begins a token
after_byte : (blank : Bool) (rest : List (Spot Token)) (l : Lexeme Token) (at : ℕ) (more : List (Spot Token)) → AllByRecursion IsNameless (tokens rest) → Quiet l → AllByRecursion IsNameless (tokens more)
    → AllByRecursion IsNameless (tokens (if blank then rest else record { token = l.token; at = at; after = at + l.len } ∷ more))
after_byte true rest l at more passed first later = passed
after_byte false rest l at more passed first later = (first, later)

from_place : (mode : Mode) (at skipped : ℕ) (text : List ℕ) → HasNo 36 text → HasNo 91 text → AllByRecursion IsNameless (tokens (spots_from lexing mode at skipped text))
from_place mode at skipped [] call index = (tt, tt)
from_place mode at (suc skipped) (b ∷ bs) call index = from_place mode (suc at) skipped bs call.1 index.1
from_place mode at zero (b ∷ bs) call index =
    after_byte (is_blank b) (spots_from lexing mode (suc at) zero bs) (lexeme mode at (b ∷ bs)) at
    (spots_from lexing (mode_after (lexeme mode at (b ∷ bs)).token) (suc at) ((lexeme mode at (b ∷ bs)).len - 1) bs)
    (from_place mode (suc at) zero bs call.1 index.1) (lexeme_quiet mode at b bs call.0 index.0)
    (from_place (mode_after (lexeme mode at (b ∷ bs)).token) (suc at) ((lexeme mode at (b ∷ bs)).len - 1) bs call.1 index.1)

pub nameless_tokens : (text : List ℕ) → HasNo 36 text → HasNo 91 text → AllByRecursion IsNameless (tokens (spots text))
nameless_tokens text call index = from_place plain 0 0 text call index
