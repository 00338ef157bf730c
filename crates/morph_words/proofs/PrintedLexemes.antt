-- The lexemes of printed rules.
use Rattle.std.proofs.Common.{◌≡◌, ℕ, zero, suc, ◌+◌, ◌-◌, ◌^◌, ◌<◌, ◌≤◌, Bool, true, false, List, [], ◌∷◌, ◌++◌, length, drop, map, append_assoc, decimal, codes, ℤ, pos, negsuc, refl, sym, ap, ◌∙◌, arith}
use Rattle.std.specs.Prelude.{if◌then◌else◌, nat_lt}
use Rattle.std.specs.Fmt.{signed_decimal}
use Rattle.std.specs.List.{AllByRecursion, flat_map}
use Rattle.std.proofs.lemmas.Bool.Decides.{nat_tests}
use Rattle.std.proofs.lemmas.List.{length-append}
use Rattle.std.proofs.lemmas.Fmt.{decimal_digit}
use Rattle.std.proofs.Math.Seq.{drop-append-add}
use Rattle.text_grammar.specs.Bytes.{is_digit}
use Rattle.morph_words.specs.declared.lexeme.Lexeme.TheVariants.{Letter, Arrow, Blank}
use Rattle.morph_words.specs.declared.lexeme.Lexeme.{Lexeme}
use Rattle.text_grammar.specs.Numbers.{is_short}
use Rattle.text_grammar.specs.Spots.{lexeme_of, spots_from, tokens}
use Rattle.text_grammar.specs.Spots as spots
use Rattle.morph_words.specs.Lexemes.{lexeme, lexing, lexemes}
use Rattle.morph_words.specs.Printed.{letter_text, rule_text}
use Rattle.morph_words.specs.Rules.{IsRule}
use Rattle.text_grammar.proofs.SpotLemmas.{spots_skip}
use Rattle.morph_words.proofs.DigitSteps.{printed_bracket}

-- lexemes are the same from each byte on
same_lexemes : (a b skipped : ℕ) (bs : List ℕ) → tokens (spots_from lexing tt a skipped bs) ≡ tokens (spots_from lexing tt b skipped bs)
same_lexemes a b skipped [] = refl
same_lexemes a b (suc skipped) (x ∷ bs) = same_lexemes (suc a) (suc b) skipped bs
same_lexemes a b zero (x ∷ bs) = ap (λ ts. (lexeme x bs).token ∷ ts) (same_lexemes (suc a) (suc b) ((lexeme x bs).len - 1) bs)

-- the first lexeme, and those after its bytes
first_lexeme : (p : spots.Lexeme Lexeme) (b : ℕ) (bs : List ℕ) → lexeme b bs ≡ p → p.len - 1 ≤ length bs → lexemes (b ∷ bs) ≡ p.token ∷ lexemes (drop (p.len - 1) bs)
first_lexeme p b bs e within =
    ap (λ (q : spots.Lexeme Lexeme). q.token ∷ tokens (spots_from lexing tt 1 (q.len - 1) bs)) e
    ∙ ap (λ ts. p.token ∷ ts) (ap (λ ss. tokens ss) (spots_skip lexing tt 1 (p.len - 1) bs within) ∙ same_lexemes (1 + (p.len - 1)) 0 0 (drop (p.len - 1) bs))

digit_lexeme : (n : ℕ) (rest : List ℕ) → n < 10 → lexeme (48 + n) rest ≡ lexeme_of (Letter (pos n)) 1
digit_lexeme n rest h =
    let digit : is_digit (48 + n) ≡ true = grind (arith, nat_tests) in
    let same : 48 + n - 48 ≡ n = omega arith in
    rw digit (ap (λ k. lexeme_of (Letter (pos k)) 1) same)

digit_read : (n : ℕ) (rest : List ℕ) → n < 10 → lexemes (decimal n ++ rest) ≡ Letter (pos n) ∷ lexemes rest
digit_read n rest h = ap (λ ds. lexemes (ds ++ rest)) (decimal_digit n h) ∙ first_lexeme (lexeme_of (Letter (pos n)) 1) (48 + n) rest (digit_lexeme n rest h) (omega arith)

bracket_read : (z : ℤ) (rest : List ℕ) → is_short (2 ^ 31) z ≡ true → lexemes ((91 ∷ (signed_decimal z ++ 93 ∷ [])) ++ rest) ≡ Letter z ∷ lexemes rest
bracket_read z rest h =
    let len = length (signed_decimal z) in
    let bytes = signed_decimal z ++ 93 ∷ rest in
    let whole : len + length (93 ∷ rest) ≡ length bytes = sym (length-append (signed_decimal z) (93 ∷ rest)) in
    let byte : len + 2 - 1 ≡ len + 1 = omega arith in
    let suffix : drop (len + 2 - 1) bytes ≡ rest = ap (λ k. drop k bytes) byte ∙ drop-append-add (signed_decimal z) (93 ∷ rest) 1 in
    ap (λ bs. lexemes (91 ∷ bs)) (append_assoc (signed_decimal z) (93 ∷ []) rest)
    ∙ (first_lexeme (lexeme_of (Letter z) (len + 2)) 91 bytes (printed_bracket z rest h) (omega arith) ∙ ap (λ bs. Letter z ∷ lexemes bs) suffix)

-- a printed letter is one lexeme
pub letter_read : (z : ℤ) (rest : List ℕ) → is_short (2 ^ 31) z ≡ true → lexemes (letter_text z ++ rest) ≡ Letter z ∷ lexemes rest
letter_read (pos n) rest h = by_test (nat_lt n 10) refl
  where
    by_test : (b : Bool) → nat_lt n 10 ≡ b → lexemes ((if b then signed_decimal (pos n) else 91 ∷ (signed_decimal (pos n) ++ 93 ∷ [])) ++ rest) ≡ Letter (pos n) ∷ lexemes rest
    by_test true e = let below : n < 10 = grind (arith, nat_tests) in digit_read n rest below
    by_test false e = bracket_read (pos n) rest h
letter_read (negsuc n) rest h = bracket_read (negsuc n) rest h

-- so are letters one after another
letters_read : (zs : List ℤ) (rest : List ℕ) → AllByRecursion (λ z. is_short (2 ^ 31) z ≡ true) zs → lexemes (flat_map letter_text zs ++ rest) ≡ map Letter zs ++ lexemes rest
letters_read [] rest h = refl
letters_read (z ∷ zs) rest h =
    ap lexemes (append_assoc (letter_text z) (flat_map letter_text zs) rest)
    ∙ (letter_read z (flat_map letter_text zs ++ rest) h.0 ∙ ap (λ ts. Letter z ∷ ts) (letters_read zs rest h.1))

arrow_read : (rest : List ℕ) → lexemes (codes "->" ++ rest) ≡ Arrow ∷ lexemes rest
arrow_read rest = first_lexeme (lexeme_of Arrow 2) 45 (62 ∷ rest) refl (omega arith)

pub blank_read : (rest : List ℕ) → lexemes (codes " " ++ rest) ≡ Blank ∷ lexemes rest
blank_read rest = first_lexeme (lexeme_of Blank 1) 32 rest refl (omega arith)

pub end_read : lexemes (codes "\n") ≡ Blank ∷ []
end_read = first_lexeme (lexeme_of Blank 1) 10 [] refl (omega arith)

-- the lexemes of a printed rule
pub rule_read : (rule : ℤ × List ℤ) (rest : List ℕ) → IsRule rule → lexemes (rule_text rule ++ rest) ≡ Letter rule.0 ∷ Arrow ∷ (map Letter rule.1 ++ lexemes rest)
rule_read rule rest h =
    let images = flat_map letter_text rule.1 in
    ap lexemes (append_assoc (letter_text rule.0) (codes "->" ++ images) rest ∙ ap (λ bs. letter_text rule.0 ++ bs) (append_assoc (codes "->") images rest))
    ∙ (letter_read rule.0 (codes "->" ++ (images ++ rest)) h.letter
    ∙ ap (λ ts. Letter rule.0 ∷ ts) (arrow_read (images ++ rest) ∙ ap (λ ts. Arrow ∷ ts) (letters_read rule.1 rest h.image)))
