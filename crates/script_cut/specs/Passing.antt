-- How a cutter goes over the bytes of a script.
use Rattle.std.specs.Prelude.{◌≡◌, ◌≢◌, ℕ, ◌+◌, ◌<◌, ◌≤◌, Bool, true, false, IsTrue, List, [], ◌∷◌, ◌++◌, length, Option, None, Some, Result, Ok, Err, ⊤}
use Rattle.std.specs.List.{concat, AllByRecursion}
use Rattle.std.specs.Io.KnownBytes.{IsAtEnd as HasGivenAll}
use Rattle.wal_outside.specs.Views.{SourceView}
use Rattle.script_cut.specs.Asking.{Gives, AreAsked}
use Rattle.script_cut.specs.Texts.{all_gaps, commented, quoted, unbroken, Starts, terminator_of, line_ends}
use Rattle.script_cut.specs.Kept.{Kept}
use Rattle.script_cut.specs.declared.cut.CutFault.{CutFault}
use Rattle.script_cut.specs.declared.cut.CutFault.TheVariants as faults
use Rattle.script_cut.specs.declared.cutter.Scanned.{Scanned}
use Rattle.wal_outside.specs.declared.source.Failed.{Failed}

-- one call of a source has filled the room for bytes
abbrev pub Fills : SourceView → Result (Unit {0}) Failed → List ℕ → SourceView → Type 0
Fills was (Ok done) held now = Gives was (held ∷ []) now × (held ≡ [] → HasGivenAll now.left)
Fills was (Err fault) held now = Gives was ([] ∷ []) now × (held ≡ [])

abbrev pub is_failed_fill : Result (Unit {0}) Failed → Bool
is_failed_fill (Ok done) = false
is_failed_fill (Err fault) = true

-- a source gave pieces, and of the bytes held and given these were passed
pub record Passes (old : Kept) (was : SourceView) (new : Kept) (now : SourceView) (passed : List ℕ) : Type 0 where
  pub pieces : List (List ℕ)
  pub given : Gives was pieces now
  pub split : old.held ++ concat pieces ≡ passed ++ new.held
  pub line_is : new.line ≡ old.line + line_ends passed
  pub room_is : new.room + length passed ≡ old.room

-- where bytes were given, those that are held are at most one more than may be passed
abbrev pub IsBounded : List (List ℕ) → Kept → Type 0
IsBounded pieces new = pieces ≢ [] → length new.held ≤ new.room + 1

-- there are bytes in each piece
abbrev pub AllGave : List (List ℕ) → Type 0
AllGave pieces = AllByRecursion (λ piece. piece ≢ []) pieces

-- one call is made where nothing is held, and else none
abbrev pub AsksOnce : List ℕ → List (List ℕ) → Type 0
AsksOnce held [] = ⊤
AsksOnce held (piece ∷ []) = held ≡ []
AsksOnce held (piece ∷ next ∷ pieces) = ⊥

-- bytes are held: those that were, or those that one call gave
pub record IsSupplied (old : Kept) (was : SourceView) (new : Kept) (now : SourceView) : Type 0 where
  pub passes : Passes old was new now []
  pub once : AsksOnce old.held passes.pieces
  pub bounded : IsBounded passes.pieces new

-- bytes are held, or the source has ended; or it failed, and none is
abbrev pub IsRefilled : Kept → Result (Unit {0}) CutFault → Kept → SourceView → Type 0
IsRefilled old (Ok done) new now = new.held ≡ [] → HasGivenAll now.left
IsRefilled old (Err faults.Failed) new now = new.held ≡ []
IsRefilled old (Err (faults.Syntax line len)) new now = ⊥
IsRefilled old (Err (faults.Long line)) new now = ⊥
IsRefilled old (Err (faults.ScriptLimit line)) new now = ⊥
IsRefilled old (Err faults.Memory) new now = ⊥

-- the source has ended, and all was passed
pub record IsOver (new : Kept) (now : SourceView) : Type 0 where
  pub over : new.over ≡ true
  pub held : new.held ≡ []
  pub ended : HasGivenAll now.left

-- where a cutter is stopped in the middle of a script
abbrev pub Stops : CutFault → Kept → Type 0
Stops faults.Failed new = (new.held ≡ []) × (new.over ≡ false)
Stops (faults.ScriptLimit line) new = (new.held ≢ []) × (new.room ≡ 0) × (line ≡ new.line) × (new.over ≡ false)
Stops faults.Memory new = new.over ≡ false
Stops (faults.Syntax line len) new = ⊥
Stops (faults.Long line) new = ⊥

-- so many bytes are held that may be passed
pub record HasHeld (count : ℕ) (new : Kept) : Type 0 where
  pub some : 0 < count
  pub held : count ≤ length new.held
  pub room : count ≤ new.room
  pub over : new.over ≡ false

-- how many bytes may be passed, or that none is left
abbrev pub Supplies : Result (Option ℕ) CutFault → Kept → SourceView → Type 0
Supplies (Ok (Some count)) new now = HasHeld count new
Supplies (Ok None) new now = IsOver new now
Supplies (Err fault) new now = Stops fault new

-- a command begins after the gaps
pub record IsAtText (before : List ℕ) (pieces : List (List ℕ)) (new : Kept) : Type 0 where
  pub gave : AllGave pieces
  pub closed : commented false before ≡ false
  pub starts : Starts new.held
  pub room : 0 < new.room
  pub over : new.over ≡ false

abbrev pub StopsGaps : Result Bool CutFault → List ℕ → List (List ℕ) → Kept → SourceView → Type 0
StopsGaps (Ok true) before pieces new now = IsAtText before pieces new
StopsGaps (Ok false) before pieces new now = IsOver new now
StopsGaps (Err fault) before pieces new now = Stops fault new

-- the gaps were passed, and a call was made only where no more than gaps was held and given
pub record PassesGaps (old : Kept) (was : SourceView) (result : Result Bool CutFault) (new : Kept) (now : SourceView) : Type 0 where
  pub before : List ℕ
  pub passes : Passes old was new now before
  pub gaps : IsTrue (all_gaps false before)
  pub asked : AreAsked (λ bytes. IsTrue (all_gaps false bytes)) old.held passes.pieces
  pub bounded : IsBounded passes.pieces new
  pub stops : StopsGaps result before passes.pieces new now

-- a text was passed up to after its terminator
pub record IsAfterText (text end : List ℕ) (shown : Bool) (new : Kept) : Type 0 where
  pub end_is : end ≡ terminator_of shown ∷ []
  pub closed : quoted false text ≡ false
  pub over : new.over ≡ false

-- a text was passed up to the script's end
pub record IsAfterAll (end : List ℕ) (new : Kept) (now : SourceView) : Type 0 where
  pub no_end : end ≡ []
  pub over : IsOver new now

abbrev pub EndsText : Option Bool → List ℕ → List ℕ → Kept → SourceView → Type 0
EndsText (Some shown) text end new now = IsAfterText text end shown new
EndsText None text end new now = IsAfterAll end new now

-- how a text ended, how long it is, and that it was kept where it is not too long
pub record HasScanned (scanned : Scanned) (text end : List ℕ) (new : Kept) (now : SourceView) : Type 0 where
  pub ends : EndsText scanned.shown text end new now
  pub len_is : scanned.len ≡ length text
  pub text_is : scanned.len ≤ 65536 → new.text ≡ text

abbrev pub StopsText : Result Scanned CutFault → List ℕ → List ℕ → Kept → SourceView → Type 0
StopsText (Ok scanned) text end new now = HasScanned scanned text end new now
StopsText (Err fault) text end new now = (end ≡ []) × Stops fault new

-- a command's text was passed, and a call was made only where no terminator was in what was held and given
pub record PassesText (old : Kept) (was : SourceView) (result : Result Scanned CutFault) (new : Kept) (now : SourceView) : Type 0 where
  pub text : List ℕ
  pub end : List ℕ
  pub passes : Passes old was new now (text ++ end)
  pub whole : IsTrue (unbroken false text)
  pub asked : AreAsked (λ bytes. IsTrue (unbroken false bytes)) old.held passes.pieces
  pub bounded : IsBounded passes.pieces new
  pub stops : StopsText result text end new now
