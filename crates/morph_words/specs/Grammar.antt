-- The grammar of rules: which rules derive which lexemes, one after another.
use Rattle.std.specs.Prelude.{◌≡◌, ℕ, zero, suc, false, List, [], ◌∷◌, ◌++◌, ℤ, ⊤}
use Rattle.std.specs.List.Sorted.{IsStrictlySortedBy, IsPermutation}
use Rattle.std.specs.Ordering.{int_cmp}
use Rattle.std.specs.Map.{keys_of}
use Rattle.morph_words.specs.declared.lexeme.Lexeme.{Lexeme}
use Rattle.morph_words.specs.declared.lexeme.Lexeme.TheVariants.{Letter, Arrow, Blank, Comma}
use Rattle.morph_words.specs.Rules.{Rules, has}

-- image := letter { letter }
pub data Image : Type 0 where
  only : ℤ → Image
  longer : Image → ℤ → Image

-- rule := letter { blank } "->" { blank } image
pub record Rule : Type 0 where
  pub letter : ℤ
  pub before_arrow : ℕ
  pub after_arrow : ℕ
  pub image : Image

-- divider := ( blank | "," ) { blank | "," }
pub data Divider : Type 0 where
  blank : Divider
  comma : Divider
  and_blank : Divider → Divider
  and_comma : Divider → Divider

-- rules := rule { divider rule }
pub data RuleList : Type 0 where
  first : Rule → RuleList
  next : RuleList → Divider → Rule → RuleList

-- text := { blank } rules { blank }
pub record Text : Type 0 where
  pub before : ℕ
  pub rules : RuleList
  pub after : ℕ

-- the lexemes that are derived, and the rest after them
abbrev pub blanks_then : ℕ → List Lexeme → List Lexeme
blanks_then zero rest = rest
blanks_then (suc count) rest = blanks_then count (Blank ∷ rest)

abbrev pub image_then : Image → List Lexeme → List Lexeme
image_then (only letter) rest = Letter letter ∷ rest
image_then (longer image letter) rest = image_then image (Letter letter ∷ rest)

abbrev pub rule_then : Rule → List Lexeme → List Lexeme
rule_then rule rest = Letter rule.letter ∷ blanks_then rule.before_arrow (Arrow ∷ blanks_then rule.after_arrow (image_then rule.image rest))

abbrev pub divider_then : Divider → List Lexeme → List Lexeme
divider_then blank rest = Blank ∷ rest
divider_then comma rest = Comma ∷ rest
divider_then (and_blank divider) rest = divider_then divider (Blank ∷ rest)
divider_then (and_comma divider) rest = divider_then divider (Comma ∷ rest)

abbrev pub rules_then : RuleList → List Lexeme → List Lexeme
rules_then (first rule) rest = rule_then rule rest
rules_then (next rules divider rule) rest = rules_then rules (divider_then divider (rule_then rule rest))

abbrev pub text_then : Text → List Lexeme → List Lexeme
text_then text rest = blanks_then text.before (rules_then text.rules (blanks_then text.after rest))

-- the letters of an image
abbrev pub letters_of : Image → List ℤ
letters_of (only letter) = letter ∷ []
letters_of (longer image letter) = letters_of image ++ letter ∷ []

-- the rules, one after another
abbrev pub rules_of : RuleList → Rules
rules_of (first rule) = (rule.letter, letters_of rule.image) ∷ []
rules_of (next rules divider rule) = rules_of rules ++ (rule.letter, letters_of rule.image) ∷ []

-- no rule is for a letter that has one before it
abbrev pub IsOnce : RuleList → Type 0
IsOnce (first rule) = ⊤
IsOnce (next rules divider rule) = IsOnce rules × (has (rules_of rules) rule.letter ≡ false)

-- lexemes derive from rules, which are seen by ascending letter
pub record Derives (ts : List Lexeme) (rules : Rules) : Type 0 where
  pub text : Text
  pub derives : text_then text [] ≡ ts
  pub once : IsOnce text.rules
  pub same : IsPermutation (rules_of text.rules) rules
  pub ascending : IsStrictlySortedBy int_cmp (keys_of rules)
