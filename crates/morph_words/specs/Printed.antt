-- The printed text of rules.
use Rattle.std.specs.Prelude.{ℕ, nat_lt, Bool, false, if◌then◌else◌, List, ◌∷◌, [], ◌++◌, ℤ, pos, negsuc, codes}
use Rattle.std.specs.Fmt.{signed_decimal}
use Rattle.std.specs.List.{flat_map, join_by}
use Rattle.morph_words.specs.Rules.{Rules}

-- whether a letter is a digit
abbrev pub is_digit_letter : ℤ → Bool
is_digit_letter (pos n) = nat_lt n 10
is_digit_letter (negsuc n) = false

-- a letter: 0 to 9 as a digit, others in brackets
abbrev pub letter_text : ℤ → List ℕ
letter_text letter = if is_digit_letter letter then signed_decimal letter else 91 ∷ (signed_decimal letter ++ 93 ∷ [])

-- a rule: its letter, an arrow, and the letters of its image
abbrev pub rule_text : (ℤ × List ℤ) → List ℕ
rule_text rule = letter_text rule.0 ++ (codes "->" ++ flat_map letter_text rule.1)

-- rules with a blank between them, and a line end after the last
abbrev pub printed : Rules → List ℕ
printed rules = join_by rule_text (codes " ") rules ++ codes "\n"
