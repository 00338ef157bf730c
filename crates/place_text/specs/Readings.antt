-- What functions return, beside what is read.
use Rattle.std.specs.Prelude.{◌≡◌, Result, Ok, Err, ⊤}
use Rattle.place_text.specs.declared.fault.PlaceFault.{PlaceFault}
use Rattle.place_text.specs.declared.fault.PlaceFault.TheVariants.{Syntax, Number, Memory}
use Rattle.text_grammar.specs.Spots as spots
use Rattle.place_text.specs.declared.lexeme.Lexeme.{Lexeme}
use Rattle.place_text.specs.declared.lexeme.Piece.{Piece}
use Rattle.place_text.specs.declared.lexeme.Spot.{Spot}
use Rattle.place_text.specs.declared.stage.Stage.{Stage}
use Rattle.place_text.specs.declared.stage.Stage.TheVariants as variants
use Rattle.place_text.specs.Stages as stages

-- The fault that a function answered is the one that is read, its byte as well. Memory may run out at any time.
abbrev pub Fails : {Y : Type 0} → PlaceFault → Result Y PlaceFault → Type 0
Fails (Syntax at) read = read ≡ Err (Syntax at)
Fails (Number at) read = read ≡ Err (Number at)
Fails Memory read = ⊤

-- What a function returned, seen by view, is what is read.
abbrev pub Reads : {X Y : Type 0} → (X → Y) → Result X PlaceFault → Result Y PlaceFault → Type 0
Reads view (Ok x) read = read ≡ Ok (view x)
Reads view (Err fault) read = Fails fault read

-- a lexeme with its length, and at its byte
abbrev pub piece_view : Piece → spots.Lexeme Lexeme
piece_view p = record { token = p.lexeme; len = p.len }

abbrev pub spot_view : Spot → spots.Spot Lexeme
spot_view s = record { token = s.lexeme; at = s.at; after = s.after }

-- a stage, without where it lies in memory
abbrev pub stage_view : Stage → stages.Stage
stage_view variants.AtStart = stages.AtStart
stage_view variants.AtFirst = stages.AtFirst
stage_view (variants.AtLetter letters) = stages.AtLetter letters
stage_view (variants.AfterDigit letters digits) = stages.AfterDigit letters digits
stage_view (variants.AfterComma letters digits) = stages.AfterComma letters digits
stage_view (variants.AfterLetter letters) = stages.AfterLetter letters
stage_view variants.AfterEmpty = stages.AfterEmpty
