-- What the grammar derives, stage after stage reads.
use Rattle.std.proofs.Common.{◌≡◌, ℕ, zero, suc, Bool, true, false, List, [], ◌∷◌, None, Some, refl, sym, ◌∙◌, ap, ℤ}
use Rattle.std.specs.Prelude.{if◌then◌else◌}
use Rattle.morph_words.specs.declared.lexeme.Lexeme.{Lexeme}
use Rattle.morph_words.specs.declared.lexeme.Lexeme.TheVariants.{Letter, Arrow, Blank, Comma}
use Rattle.morph_words.specs.Rules.{Rules, has, put}
use Rattle.morph_words.specs.Grammar.{Image, only, longer, Rule, Divider, blank, comma, and_blank, and_comma, RuleList, first, next, Text, blanks_then, image_then, rule_then, divider_then, rules_then, text_then, letters_of, Derives}
use Rattle.morph_words.proofs.Maps.{map_of, MapOnce, DerivesMap, map_derived}
use Rattle.morph_words.specs.Stages.{Stage, AtFirst, AfterLetter, AfterArrow, InImage, AfterRule, AfterComma, ended}
use Rattle.morph_words.proofs.Walks.{from, reach, blanks_stay, blanks_prefix}

image_on : (image : Image) (rest : List Lexeme) (rules : Rules) (letter : ℤ) → reach (image_then image rest) (AfterArrow rules letter) ≡ reach rest (InImage rules letter (letters_of image))
image_on (only z) rest rules letter = refl
image_on (longer image z) rest rules letter = image_on image (Letter z ∷ rest) rules letter

-- a rule after its letter
rule_on : (rule : Rule) (rest : List Lexeme) (rules : Rules) → reach (blanks_then rule.before_arrow (Arrow ∷ blanks_then rule.after_arrow (image_then rule.image rest))) (AfterLetter rules rule.letter) ≡ reach rest (InImage rules rule.letter (letters_of rule.image))
rule_on rule rest rules =
    blanks_stay (AfterLetter rules rule.letter) refl rule.before_arrow (Arrow ∷ blanks_then rule.after_arrow (image_then rule.image rest))
    ∙ (blanks_stay (AfterArrow rules rule.letter) refl rule.after_arrow (image_then rule.image rest)
    ∙ image_on rule.image rest rules rule.letter)

-- whether a comma is in what divides two rules
abbrev has_comma : Divider → Bool
has_comma blank = false
has_comma comma = true
has_comma (and_blank divider) = has_comma divider
has_comma (and_comma divider) = true

-- after a rule and what divides it from the next
abbrev pub divided : Bool → Rules → Stage
divided true rules = AfterComma rules
divided false rules = AfterRule rules

blank_on : (c : Bool) (rules : Rules) (rest : List Lexeme) → reach (Blank ∷ rest) (divided c rules) ≡ reach rest (divided c rules)
blank_on true rules rest = refl
blank_on false rules rest = refl

comma_on : (c : Bool) (rules : Rules) (rest : List Lexeme) → reach (Comma ∷ rest) (divided c rules) ≡ reach rest (AfterComma rules)
comma_on true rules rest = refl
comma_on false rules rest = refl

divider_on : (divider : Divider) (rest : List Lexeme) (rules : Rules) (letter : ℤ) (image : List ℤ) → reach (divider_then divider rest) (InImage rules letter image) ≡ reach rest (divided (has_comma divider) (put rules letter image))
divider_on blank rest rules letter image = refl
divider_on comma rest rules letter image = refl
divider_on (and_blank divider) rest rules letter image = divider_on divider (Blank ∷ rest) rules letter image ∙ blank_on (has_comma divider) (put rules letter image) rest
divider_on (and_comma divider) rest rules letter image = divider_on divider (Comma ∷ rest) rules letter image ∙ comma_on (has_comma divider) (put rules letter image) rest

-- the letter of a further rule
pub letter_on : (c : Bool) (rules : Rules) (letter : ℤ) (rest : List Lexeme) → has rules letter ≡ false → reach (Letter letter ∷ rest) (divided c rules) ≡ reach rest (AfterLetter rules letter)
letter_on true rules letter rest h = ap (λ (b : Bool). from (if b then None else Some (AfterLetter rules letter)) (λ n. reach rest n)) h
letter_on false rules letter rest h = ap (λ (b : Bool). from (if b then None else Some (AfterLetter rules letter)) (λ n. reach rest n)) h

-- the rules before the last, and the last
abbrev before_last : RuleList → Rules
before_last (first rule) = []
before_last (next rules divider rule) = map_of rules

abbrev last_of : RuleList → Rule
last_of (first rule) = rule
last_of (next rules divider rule) = rule

map_last : (rules : RuleList) → put (before_last rules) (last_of rules).letter (letters_of (last_of rules).image) ≡ map_of rules
map_last (first rule) = refl
map_last (next rules divider rule) = refl

rules_on : (rules : RuleList) (rest : List Lexeme) → MapOnce rules → reach (rules_then rules rest) AtFirst ≡ reach rest (InImage (before_last rules) (last_of rules).letter (letters_of (last_of rules).image))
rules_on (first rule) rest once = rule_on rule rest []
rules_on (next rules divider rule) rest once =
    rules_on rules (divider_then divider (rule_then rule rest)) once.0
    ∙ (divider_on divider (rule_then rule rest) (before_last rules) (last_of rules).letter (letters_of (last_of rules).image)
    ∙ (ap (λ (m : Rules). reach (rule_then rule rest) (divided (has_comma divider) m)) (map_last rules)
    ∙ (letter_on (has_comma divider) (map_of rules) rule.letter (blanks_then rule.before_arrow (Arrow ∷ blanks_then rule.after_arrow (image_then rule.image rest))) once.1
    ∙ rule_on rule rest (map_of rules))))

-- blanks at the end
ends_on : (count : ℕ) (rules : Rules) (letter : ℤ) (image : List ℤ) → from (reach (blanks_then count []) (InImage rules letter image)) ended ≡ Some (put rules letter image)
ends_on zero rules letter image = refl
ends_on (suc count) rules letter image =
    ap (λ (ts : List Lexeme). from (reach ts (InImage rules letter image)) ended) (blanks_prefix count [])
    ∙ ap (λ o. from o ended) (blanks_stay (AfterRule (put rules letter image)) refl count [])

text_on : (text : Text) → MapOnce text.rules → from (reach (text_then text []) AtFirst) ended ≡ Some (map_of text.rules)
text_on text once =
    ap (λ o. from o ended) (blanks_stay AtFirst refl text.before (rules_then text.rules (blanks_then text.after [])) ∙ rules_on text.rules (blanks_then text.after []) once)
    ∙ (ends_on text.after (before_last text.rules) (last_of text.rules).letter (letters_of (last_of text.rules).image)
    ∙ ap (λ (m : Rules). Some m) (map_last text.rules))

map_read : (ts : List Lexeme) (rules : Rules) → DerivesMap ts rules → from (reach ts AtFirst) ended ≡ Some rules
map_read ts rules h =
    ap (λ (l : List Lexeme). from (reach l AtFirst) ended) (sym h.derives) ∙ (text_on h.text h.once ∙ ap (λ (m : Rules). Some m) h.rules_are)

pub derived_read : (ts : List Lexeme) (rules : Rules) → Derives ts rules → from (reach ts AtFirst) ended ≡ Some rules
derived_read ts rules h = map_read ts rules (map_derived ts rules h)
