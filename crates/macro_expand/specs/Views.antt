-- What the functions answer, as the definitions see it.
use Rattle.std.specs.Prelude.{◌≡◌, ℕ, suc, ◌+◌, ◌==◌, if◌then◌else◌, ◌<◌, ◌≤◌, List, [], ◌∷◌, ◌++◌, length, drop, map, Result, Ok, Err, ⊤, IsAscii}
use Rattle.macro_expand.specs.declared.fault.MacroFault.{MacroFault}
use Rattle.macro_expand.specs.declared.fault.MacroFault.TheVariants as faults
use Rattle.macro_expand.specs.declared.call.Call.{Call as Call'}
use Rattle.macro_expand.specs.declared.piece.Piece.{Piece as Piece'}
use Rattle.macro_expand.specs.declared.piece.Piece.TheVariants as piece
use Rattle.macro_expand.specs.declared.segment.Segment.{Segment as Segment'}
use Rattle.macro_expand.specs.declared.segment.Segment.TheVariants as segment
use Rattle.macro_expand.specs.declared.expanding.Expanded.{Expanded as Expanded'}
use Rattle.macro_expand.specs.declared.expanding.Given.{Given as Given'}
use Rattle.macro_expand.specs.Calls.{Call}
use Rattle.macro_expand.specs.Pieces.{Piece, byte, call, stray, pieces_from}
use Rattle.macro_expand.specs.Filling as filling
use Rattle.macro_expand.specs.Filling.{Segment, segments_from}
use Rattle.macro_expand.specs.Expansion.{Expanded, Given}

-- the fault that a function answered is the defined one; memory may run out at any time
abbrev pub Fails : {Y : Type 0} → MacroFault → Result Y MacroFault → Type 0
Fails faults.Memory defined = ⊤
Fails (faults.Syntax at) defined = defined ≡ Err (faults.Syntax at)
Fails (faults.Unknown name) defined = defined ≡ Err (faults.Unknown name)
Fails (faults.MacroArgs name n given) defined = defined ≡ Err (faults.MacroArgs name n given)
Fails (faults.MacroDepth name) defined = defined ≡ Err (faults.MacroDepth name)
Fails faults.MacroLong defined = defined ≡ Err faults.MacroLong

-- what a function answered, seen by view, is what is defined
abbrev pub Answers : {X Y : Type 0} → (X → Y) → Result X MacroFault → Result Y MacroFault → Type 0
Answers view (Ok x) defined = defined ≡ Ok (view x)
Answers view (Err fault) defined = Fails fault defined

-- how many bytes come before the first one that is this mark
abbrev pub len_before : ℕ → List ℕ → ℕ
len_before mark [] = 0
len_before mark (b ∷ bs) = if b == mark then 0 else suc (len_before mark bs)

abbrev pub call_view : Call' → Call
call_view c = record { name = c.name.now; inside = c.inside.now; len = c.len }

-- the pieces that a function read at once
abbrev pub pieces_view : Piece' → List Piece
pieces_view (piece.Plain bytes) = map byte bytes.now
pieces_view (piece.Call c) = call (call_view c) ∷ []
pieces_view (piece.Stray at) = stray at ∷ []

-- and how many bytes they have
abbrev pub piece_len : Piece' → ℕ
piece_len (piece.Plain bytes) = length bytes.now
piece_len (piece.Call c) = c.len + 1
piece_len (piece.Stray at) = 1

-- the names of calls are ASCII
abbrev pub IsNamed : Piece' → Type 0
IsNamed (piece.Plain bytes) = ⊤
IsNamed (piece.Call c) = IsAscii c.name.now
IsNamed (piece.Stray at) = ⊤

-- the first pieces of the bytes from a place on
pub record IsFirstPiece (at : ℕ) (bytes : List ℕ) (first : Piece') : Type 0 where
  pub some : 0 < piece_len first
  pub within : piece_len first ≤ length bytes
  pub named : IsNamed first
  pub pieces_are : pieces_from at 0 bytes ≡ pieces_view first ++ pieces_from (at + piece_len first) 0 (drop (piece_len first) bytes)

-- the segments that a function read at once
abbrev pub segments_view : Segment' → List Segment
segments_view (segment.Plain bytes) = map filling.byte bytes.now
segments_view (segment.Place n len) = filling.place n ∷ []

-- and how many bytes they have
abbrev pub segment_len : Segment' → ℕ
segment_len (segment.Plain bytes) = length bytes.now
segment_len (segment.Place n len) = len

-- the first segments of some bytes
pub record IsFirstSegment (bytes : List ℕ) (first : Segment') : Type 0 where
  pub some : 0 < segment_len first
  pub within : segment_len first ≤ length bytes
  pub segments_are : segments_from 0 bytes ≡ segments_view first ++ segments_from 0 (drop (segment_len first) bytes)

abbrev pub expanded_view : Expanded' → Expanded
expanded_view e = record { bytes = e.bytes.items; calls = e.calls }

abbrev pub given_view : Given' → Given
given_view g = record { texts = map (λ text. text.items) g.texts.items; calls = g.calls }
