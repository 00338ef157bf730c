-- The rules of a text, read lexeme by lexeme.
use Rattle.std.proofs.Common.{◌≡◌, ℕ, ◌≤◌, List, length, drop, Ok, Err, subst}
use Rattle.morph_words.specs.declared.fault.RulesFault.{RulesFault}
use Rattle.morph_words.specs.declared.fault.RulesFault.TheVariants.{Syntax, Number, Memory}
use Rattle.text_grammar.specs.Spots.{spots_from}
use Rattle.morph_words.specs.Lexemes.{lexing}
use Rattle.morph_words.specs.Rules.{Rules, IsMorphism}
use Rattle.morph_words.specs.Faults.{Parses}
use Rattle.morph_words.specs.Readings.{Fails}
use Rattle.morph_words.specs.Stages.{Stage, run, rules_at}
use Rattle.morph_words.proofs.Breaking.{parses}
use Rattle.morph_words.proofs.MorphismShape.{derives_morphisms}

-- what the lexemes from a byte on lead to is what is read of the whole
pub record IsLeft (text : List ℕ) (stage : Stage) (at : ℕ) : Type 0 where
  pub same : run (length text) stage (spots_from lexing tt at 0 (drop at text)) ≡ rules_at text
  pub within : at ≤ length text

-- what was read is what parsing gives
pub parsed_ok : (text : List ℕ) (rules : Rules) → rules_at text ≡ Ok rules → Parses text (Ok rules)
parsed_ok text rules e = subst (Parses text) e (parses text)

pub parsed_fault : (text : List ℕ) (fault : RulesFault) → Fails fault (rules_at text) → Parses text (Err fault)
parsed_fault text (Syntax at) h = subst (Parses text) h (parses text)
parsed_fault text (Number at) h = subst (Parses text) h (parses text)
parsed_fault text Memory h = tt

pub parsed_morphism : (text : List ℕ) (rules : Rules) → rules_at text ≡ Ok rules → IsMorphism rules
parsed_morphism text rules e = derives_morphisms text rules (parsed_ok text rules e)
