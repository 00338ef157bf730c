-- What was read of a text of rules, by the grammar, and its stage.
use Rattle.std.proofs.Common.{◌≡◌, ℕ, zero, suc, false, List, [], ◌∷◌, refl, ℤ}
use Rattle.std.specs.Prelude.{⊤}
use Rattle.morph_words.specs.declared.lexeme.Lexeme.{Lexeme}
use Rattle.morph_words.specs.declared.lexeme.Lexeme.TheVariants.{Letter, Arrow, Blank}
use Rattle.morph_words.specs.Rules.{Rules, has, put}
use Rattle.morph_words.specs.Grammar.{Rule, Divider, blank, and_blank, RuleList, first, next, blanks_then, rule_then, divider_then, rules_then, letters_of}
use Rattle.morph_words.specs.Stages.{Stage, AtFirst, AfterLetter, AfterArrow, InImage, AfterRule, AfterComma}
use Rattle.morph_words.proofs.Maps.{map_of, MapOnce}

-- what comes before a rule: blanks, or also rules and what divides
pub data Before : Type 0 where
  at_start : ℕ → Before
  suffix : ℕ → RuleList → Divider → Before

abbrev pub before_then : Before → List Lexeme → List Lexeme
before_then (at_start count) rest = blanks_then count rest
before_then (suffix count rules divider) rest = blanks_then count (rules_then rules (divider_then divider rest))

abbrev pub rules_before : Before → Rules
rules_before (at_start count) = []
rules_before (suffix count rules divider) = map_of rules

abbrev pub OnceBefore : Before → Type 0
OnceBefore (at_start count) = ⊤
OnceBefore (suffix count rules divider) = MapOnce rules

-- the blanks at the start, and the rules with a further one
abbrev pub lead_of : Before → ℕ
lead_of (at_start count) = count
lead_of (suffix count rules divider) = count

abbrev pub rules_with : Before → Rule → RuleList
rules_with (at_start count) rule = first rule
rules_with (suffix count rules divider) rule = next rules divider rule

pub rules_with_then : (b : Before) (rule : Rule) (rest : List Lexeme) → blanks_then (lead_of b) (rules_then (rules_with b rule) rest) ≡ before_then b (rule_then rule rest)
rules_with_then (at_start count) rule rest = refl
rules_with_then (suffix count rules divider) rule rest = refl

pub map_with : (b : Before) (rule : Rule) → map_of (rules_with b rule) ≡ put (rules_before b) rule.letter (letters_of rule.image)
map_with (at_start count) rule = refl
map_with (suffix count rules divider) rule = refl

pub once_with : (b : Before) (rule : Rule) → OnceBefore b → has (rules_before b) rule.letter ≡ false → MapOnce (rules_with b rule)
once_with (at_start count) rule h k = tt
once_with (suffix count rules divider) rule h k = (h, k)

-- what was read
pub data Prefix : Type 0 where
  at_first : ℕ → Prefix
  after_letter : Before → ℤ → ℕ → Prefix
  after_arrow : Before → ℤ → ℕ → ℕ → Prefix
  in_image : Before → Rule → Prefix
  after_rule : ℕ → RuleList → ℕ → Prefix
  after_comma : ℕ → RuleList → Divider → Prefix

abbrev pub prefix_then : Prefix → List Lexeme → List Lexeme
prefix_then (at_first count) rest = blanks_then count rest
prefix_then (after_letter b letter count) rest = before_then b (Letter letter ∷ blanks_then count rest)
prefix_then (after_arrow b letter count more) rest = before_then b (Letter letter ∷ blanks_then count (Arrow ∷ blanks_then more rest))
prefix_then (in_image b rule) rest = before_then b (rule_then rule rest)
prefix_then (after_rule count rules more) rest = blanks_then count (rules_then rules (blanks_then (suc more) rest))
prefix_then (after_comma count rules divider) rest = blanks_then count (rules_then rules (divider_then divider rest))

abbrev pub stage_of : Prefix → Stage
stage_of (at_first count) = AtFirst
stage_of (after_letter b letter count) = AfterLetter (rules_before b) letter
stage_of (after_arrow b letter count more) = AfterArrow (rules_before b) letter
stage_of (in_image b rule) = InImage (rules_before b) rule.letter (letters_of rule.image)
stage_of (after_rule count rules more) = AfterRule (map_of rules)
stage_of (after_comma count rules divider) = AfterComma (map_of rules)

-- no letter has two rules
abbrev pub PrefixOnce : Prefix → Type 0
PrefixOnce (at_first count) = ⊤
PrefixOnce (after_letter b letter count) = OnceBefore b × (has (rules_before b) letter ≡ false)
PrefixOnce (after_arrow b letter count more) = OnceBefore b × (has (rules_before b) letter ≡ false)
PrefixOnce (in_image b rule) = OnceBefore b × (has (rules_before b) rule.letter ≡ false)
PrefixOnce (after_rule count rules more) = MapOnce rules
PrefixOnce (after_comma count rules divider) = MapOnce rules

-- blanks that divide two rules
abbrev pub blanks_between : ℕ → Divider
blanks_between zero = blank
blanks_between (suc count) = and_blank (blanks_between count)

pub blanks_between_then : (count : ℕ) (rest : List Lexeme) → divider_then (blanks_between count) rest ≡ blanks_then (suc count) rest
blanks_between_then zero rest = refl
blanks_between_then (suc count) rest = blanks_between_then count (Blank ∷ rest)
