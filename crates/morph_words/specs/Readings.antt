-- What functions return, beside what is read.
use Rattle.std.specs.Prelude.{◌≡◌, Result, Ok, Err, ⊤}
use Rattle.morph_words.specs.declared.fault.RulesFault.{RulesFault}
use Rattle.morph_words.specs.declared.fault.RulesFault.TheVariants.{Syntax, Number, Memory}
use Rattle.text_grammar.specs.Spots as spots
use Rattle.morph_words.specs.declared.lexeme.Lexeme.{Lexeme}
use Rattle.morph_words.specs.declared.lexeme.Piece.{Piece}
use Rattle.morph_words.specs.declared.lexeme.Spot.{Spot}
use Rattle.morph_words.specs.declared.stage.Stage.{Stage}
use Rattle.morph_words.specs.declared.stage.Stage.TheVariants as variants
use Rattle.morph_words.specs.Stages as stages

-- The fault that a function answered is the one that is read, its byte as well. Memory may run out at any time.
abbrev pub Fails : {Y : Type 0} → RulesFault → Result Y RulesFault → Type 0
Fails (Syntax at) read = read ≡ Err (Syntax at)
Fails (Number at) read = read ≡ Err (Number at)
Fails Memory read = ⊤

-- What a function returned, seen by view, is what is read.
abbrev pub Reads : {X Y : Type 0} → (X → Y) → Result X RulesFault → Result Y RulesFault → Type 0
Reads view (Ok x) read = read ≡ Ok (view x)
Reads view (Err fault) read = Fails fault read

-- a lexeme with its length, and at its byte
abbrev pub piece_view : Piece → spots.Lexeme Lexeme
piece_view p = record { token = p.lexeme; len = p.len }

abbrev pub spot_view : Spot → spots.Spot Lexeme
spot_view s = record { token = s.lexeme; at = s.at; after = s.after }

-- a stage, without where it lies in memory
abbrev pub stage_view : Stage → stages.Stage
stage_view variants.AtFirst = stages.AtFirst
stage_view (variants.AfterLetter rules letter) = stages.AfterLetter rules.entries letter
stage_view (variants.AfterArrow rules letter) = stages.AfterArrow rules.entries letter
stage_view (variants.InImage rules letter image) = stages.InImage rules.entries letter image
stage_view (variants.AfterRule rules) = stages.AfterRule rules.entries
stage_view (variants.AfterComma rules) = stages.AfterComma rules.entries
