-- The place of a text, read lexeme by lexeme.
use Rattle.std.proofs.Common.{◌≡◌, ℕ, ℤ, ◌≤◌, List, length, drop, Ok, Err, subst}
use Rattle.std.specs.Prelude.{Result}
use Rattle.place_text.specs.declared.fault.PlaceFault.{PlaceFault}
use Rattle.place_text.specs.declared.fault.PlaceFault.TheVariants.{Syntax, Number, Memory}
use Rattle.text_grammar.specs.Spots.{spots_from}
use Rattle.place_text.specs.Lexemes.{lexing}
use Rattle.place_text.specs.Faults.{Parses}
use Rattle.place_text.specs.Readings.{Fails, Reads}
use Rattle.place_text.specs.Stages.{Stage, run, place_at}
use Rattle.place_text.proofs.Breaking.{parses}

-- what the lexemes from a byte on lead to is what is read of the whole
pub record IsLeft (text : List ℕ) (stage : Stage) (at : ℕ) : Type 0 where
  pub same : run (length text) stage (spots_from lexing tt at 0 (drop at text)) ≡ place_at text
  pub within : at ≤ length text

-- what was read is what parsing gives
parsed_ok : (text : List ℕ) (letters : List (List ℤ)) → place_at text ≡ Ok letters → Parses text (Ok letters)
parsed_ok text letters e = subst (Parses text) e (parses text)

parsed_fault : (text : List ℕ) (fault : PlaceFault) → Fails fault (place_at text) → Parses text (Err fault)
parsed_fault text (Syntax at) h = subst (Parses text) h (parses text)
parsed_fault text (Number at) h = subst (Parses text) h (parses text)
parsed_fault text Memory h = tt

pub parsed : (text : List ℕ) (read : Result (List (List ℤ)) PlaceFault) → Reads (λ (letters : List (List ℤ)). letters) read (place_at text) → Parses text read
parsed text (Ok letters) h = parsed_ok text letters h
parsed text (Err fault) h = parsed_fault text fault h
