-- What a text is made of: its calls, the bytes outside of them, and each `#` with which no call begins.
use Rattle.std.specs.Prelude.{ℕ, zero, suc, ◌+◌, ◌==◌, if◌then◌else◌, List, [], ◌∷◌, Option, None, Some}
use Rattle.macro_expand.specs.Calls.{Call, call_after}

pub data Piece : Type 0 where
  -- a byte that is no `#`
  byte : ℕ → Piece
  -- a call
  call : Call → Piece
  -- the place of a `#` with which no call begins
  stray : ℕ → Piece

-- the piece that begins with a `#`, and the pieces that come so many bytes after it
abbrev pub called : ℕ → Option Call → (ℕ → List Piece) → List Piece
called at None after = stray at ∷ after 0
called at (Some c) after = call c ∷ after c.len

-- the pieces of the bytes from a place on, of which the first n belong to a call before them
abbrev pub pieces_from : ℕ → ℕ → List ℕ → List Piece
pieces_from at n [] = []
pieces_from at (suc n) (b ∷ bs) = pieces_from (at + 1) n bs
pieces_from at zero (b ∷ bs) =
    if b == 35 then called at (call_after bs) (λ n. pieces_from (at + 1) n bs) else byte b ∷ pieces_from (at + 1) 0 bs

-- the pieces of a text
abbrev pub pieces : List ℕ → List Piece
pieces text = pieces_from 0 0 text
