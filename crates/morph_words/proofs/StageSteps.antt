-- A further rule begins.
use Rattle.std.proofs.Common.{◌≡◌, ℕ, Bool, true, None, Some, Err, sym, ◌∙◌, ap, ℤ}
use Rattle.std.specs.Prelude.{if◌then◌else◌}
use Rattle.morph_words.specs.declared.fault.RulesFault.TheVariants.{Syntax}
use Rattle.morph_words.specs.declared.lexeme.Lexeme.{Lexeme}
use Rattle.morph_words.specs.declared.lexeme.Lexeme.TheVariants.{Letter}
use Rattle.text_grammar.specs.Spots.{Spot}
use Rattle.morph_words.specs.Rules.{Rules, has}
use Rattle.morph_words.specs.Faults.{no_letter}
use Rattle.morph_words.specs.Stages.{AfterLetter, AfterRule, AfterComma, begun, step, or_fault, stepped}

-- a letter that has a rule is refused
pub begun_refused : (rules : Rules) (letter : ℤ) (at : ℕ) (test : Bool) → test ≡ has rules letter → test ≡ true → or_fault (Syntax at) (begun rules letter) ≡ Err (Syntax at)
begun_refused rules letter at test is value = ap (λ (t : Bool). or_fault (Syntax at) (if t then None else Some (AfterLetter rules letter))) (sym is ∙ value)

-- a letter after a rule
pub letter_after_rule : (rules : Rules) (s : Spot Lexeme) (letter : ℤ) → s.token ≡ Letter letter → stepped (AfterRule rules) s ≡ or_fault (Syntax s.at) (begun rules letter)
letter_after_rule rules s letter e = ap (λ (t : Lexeme). or_fault (no_letter t s.at s.after) (step (AfterRule rules) t)) e

pub letter_after_comma : (rules : Rules) (s : Spot Lexeme) (letter : ℤ) → s.token ≡ Letter letter → stepped (AfterComma rules) s ≡ or_fault (Syntax s.at) (begun rules letter)
letter_after_comma rules s letter e = ap (λ (t : Lexeme). or_fault (no_letter t s.at s.after) (step (AfterComma rules) t)) e
