-- What the pieces of a text are that a reader has cut.
use Rattle.std.specs.Prelude.{ℕ, ◌==◌, List, [], Option, None, Some}
use Rattle.std.specs.List.{slice_split}

-- the pieces after a mark, if there is one
abbrev pub pieces_after : ℕ → Option (List ℕ) → List (List ℕ)
pieces_after mark None = []
pieces_after mark (Some bytes) = slice_split (λ b. b == mark) bytes
