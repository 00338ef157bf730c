-- The rules that a text has are a morphism.
use Rattle.std.proofs.Common.{◌≡◌, ℕ, zero, suc, ◌+◌, ◌-◌, ◌<◌, ◌^◌, Bool, true, false, List, [], ◌∷◌, ◌++◌, length, ℤ, pos, refl, sym, subst, arith}
use Rattle.std.specs.Prelude.{⊤, if◌then◌else◌, nat_lt, ◌==◌, ◌&&◌, take, drop}
use Rattle.std.specs.List.{AllByRecursion}
use Rattle.std.proofs.lemmas.Bool.Decides.{nat_tests}
use Rattle.std.proofs.lemmas.List.{length-append}
use Rattle.text_grammar.specs.Bytes.{is_blank, is_digit}
use Rattle.morph_words.specs.declared.lexeme.Lexeme.{Lexeme}
use Rattle.morph_words.specs.declared.lexeme.Lexeme.TheVariants.{Letter, Long, Broken, Arrow, Blank, Comma, Other}
use Rattle.text_grammar.specs.Spots.{lexeme_of, spots_from, tokens}
use Rattle.text_grammar.specs.Spots as spots
use Rattle.text_grammar.specs.Numbers.{begins_with, is_short, number_len, number_of}
use Rattle.morph_words.specs.Lexemes.{bracket, lexeme, lexing, lexemes}
use Rattle.morph_words.specs.Rules.{IsRule, IsMorphism}
use Rattle.morph_words.specs.Grammar.{Image, only, longer, Rule, Divider, blank, comma, and_blank, and_comma, RuleList, first, next, blanks_then, image_then, rule_then, divider_then, rules_then, text_then, letters_of}
use Rattle.morph_words.specs.Laws.{DerivesMorphisms}
use Rattle.digit_tuple.proofs.AllLemmas.{all_append}
use Rattle.morph_words.proofs.Maps.{map_of, MapOnce, map_derived, sorted_none}
use Rattle.morph_words.proofs.Orders.{morphism_put}

-- a letter has 32 bits, signed
abbrev IsShortLexeme : Lexeme → Type 0
IsShortLexeme (Letter z) = is_short (2 ^ 31) z ≡ true
IsShortLexeme _ = ⊤

either_short : (c : Bool) (x y : spots.Lexeme Lexeme) → (c ≡ true → IsShortLexeme x.token) → (c ≡ false → IsShortLexeme y.token) → IsShortLexeme (if c then x else y).token
either_short true x y h k = h refl
either_short false x y h k = k refl

bracket_short : (bs : List ℕ) → IsShortLexeme (bracket bs).token
bracket_short bs =
    let number = take (number_len bs) bs in
    either_short (number_len bs == 0) (lexeme_of Broken 1) _ (λ e. tt)
    (λ e. either_short (is_short (2 ^ 31) (number_of number)) _ (lexeme_of Long (number_len bs + 1))
    (λ h. either_short (begins_with 93 (drop (number_len bs) bs)) (lexeme_of (Letter (number_of number)) (number_len bs + 2)) (lexeme_of Broken (number_len bs + 1)) (λ g. h) (λ g. tt))
    (λ h. tt))

digit_short : (b : ℕ) → is_digit b ≡ true → nat_lt (b - 48) 2147483648 ≡ true
digit_short b h = grind (arith, nat_tests)

lexeme_short : (b : ℕ) (bs : List ℕ) → IsShortLexeme (lexeme b bs).token
lexeme_short b bs =
    either_short (is_digit b) (lexeme_of (Letter (pos (b - 48))) 1) _ (λ e. digit_short b e)
    (λ e. either_short (is_blank b) (lexeme_of Blank 1) _ (λ h. tt)
    (λ h. either_short (b == 44) (lexeme_of Comma 1) _ (λ g. tt)
    (λ g. either_short (b == 91) (bracket bs) _ (λ k. bracket_short bs)
    (λ k. either_short (b == 45 && begins_with 62 bs) (lexeme_of Arrow 2) (lexeme_of Other 1) (λ l. tt) (λ l. tt)))))

lexemes_short : (at skipped : ℕ) (bs : List ℕ) → AllByRecursion IsShortLexeme (tokens (spots_from lexing tt at skipped bs))
lexemes_short at skipped [] = tt
lexemes_short at (suc skipped) (b ∷ bs) = lexemes_short (suc at) skipped bs
lexemes_short at zero (b ∷ bs) = (lexeme_short b bs, lexemes_short (suc at) ((lexeme b bs).len - 1) bs)

abbrev AreShort : List Lexeme → Type 0
AreShort ts = AllByRecursion IsShortLexeme ts

abbrev ShortLetters : List ℤ → Type 0
ShortLetters zs = AllByRecursion (λ z. is_short (2 ^ 31) z ≡ true) zs

after_blanks : (count : ℕ) (rest : List Lexeme) → AreShort (blanks_then count rest) → AreShort rest
after_blanks zero rest h = h
after_blanks (suc count) rest h = (after_blanks count (Blank ∷ rest) h).1

after_image : (image : Image) (rest : List Lexeme) → AreShort (image_then image rest) → ShortLetters (letters_of image) × AreShort rest
after_image (only z) rest h = ((h.0, tt), h.1)
after_image (longer image z) rest h =
    let others = after_image image (Letter z ∷ rest) h in
    (all_append (λ y. is_short (2 ^ 31) y ≡ true) (letters_of image) (z ∷ []) others.0 (others.1.0, tt), others.1.1)

image_some : (image : Image) → 0 < length (letters_of image)
image_some (only z) = omega arith
image_some (longer image z) = let e : length (letters_of image ++ z ∷ []) ≡ length (letters_of image) + 1 = length-append (letters_of image) (z ∷ []) in omega arith

after_rule : (rule : Rule) (rest : List Lexeme) → AreShort (rule_then rule rest) → IsRule (rule.letter, letters_of rule.image) × AreShort rest
after_rule rule rest h =
    let arrow = after_blanks rule.before_arrow (Arrow ∷ blanks_then rule.after_arrow (image_then rule.image rest)) h.1 in
    let image = after_image rule.image rest (after_blanks rule.after_arrow (image_then rule.image rest) arrow.1) in
    (record { letter = h.0; some = image_some rule.image; image = image.0 }, image.1)

after_divider : (divider : Divider) (rest : List Lexeme) → AreShort (divider_then divider rest) → AreShort rest
after_divider blank rest h = h.1
after_divider comma rest h = h.1
after_divider (and_blank divider) rest h = (after_divider divider (Blank ∷ rest) h).1
after_divider (and_comma divider) rest h = (after_divider divider (Comma ∷ rest) h).1

after_rules : (rules : RuleList) (rest : List Lexeme) → MapOnce rules → AreShort (rules_then rules rest) → IsMorphism (map_of rules) × AreShort rest
after_rules (first rule) rest once h =
    let is = after_rule rule rest h in
    (morphism_put [] rule.letter (letters_of rule.image) sorted_none tt refl is.0, is.1)
after_rules (next rules divider rule) rest once h =
    let before = after_rules rules (divider_then divider (rule_then rule rest)) once.0 h in
    let is = after_rule rule rest (after_divider divider (rule_then rule rest) before.1) in
    let morphism = before.0 in
    (morphism_put (map_of rules) rule.letter (letters_of rule.image) morphism.ascending morphism.each once.1 is.0, is.1)

pub derives_morphisms : DerivesMorphisms
derives_morphisms text rules h =
    let map = map_derived (lexemes text) rules h in
    let list = map.text.rules in
    let end = blanks_then map.text.after [] in
    let short : AreShort (text_then map.text []) = subst AreShort (sym map.derives) (lexemes_short 0 0 text) in
    subst IsMorphism map.rules_are (after_rules list end map.once (after_blanks map.text.before (rules_then list end) short)).0
