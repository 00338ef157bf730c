-- Rows of transitions by letters of tracks, kept as decisions by these tracks.
use Rattle.std.specs.Prelude.{◌≡◌, ℕ, ◌<◌, ◌⊎◌, List, [], ◌∷◌, ◌++◌, length, map, slice_index_or}
use Rattle.std.specs.List.{AllByRecursion}
use Rattle.digit_tuple.specs.Blocks.{AreBlocks}
use Rattle.digit_tuple.specs.Letters.{product}
use Rattle.digit_tuple.specs.Decisions.{rows_in, sizes_in, IsSound}
use Rattle.digit_tuple.specs.declared.transitions.Transition.{Transition}
use Rattle.digit_tuple.specs.declared.decisions.Decisions.{Decisions}

-- rows of transitions by letters of tracks of these sizes
pub record Rows : Type 0 where
  pub sizes : List ℕ
  pub rows : List (List Transition)

abbrev pub row_at : Rows → ℕ → List Transition
row_at table place = slice_index_or table.rows place []

-- tracks by which rows over an alphabet are decided: those of the alphabet, where it has any, or one whose digits are the letters
abbrev pub DecideRows : List ℕ → List ℕ → Type 0
DecideRows sizes tracks = ((tracks ≡ sizes) × (0 < length sizes)) ⊎ (tracks ≡ product sizes ∷ [])

-- the decisions are sound and by such tracks
pub record AreOver (sizes : List ℕ) (decisions : Decisions) : Type 0 where
  pub sound : IsSound decisions
  pub tracks : DecideRows sizes (sizes_in decisions)

-- how many rows a full block has
abbrev pub block_rows : ℕ
block_rows = 1024

-- the block is by the tracks, and full
pub record IsFullOver (sizes : List ℕ) (block : Decisions) : Type 0 where
  pub over : AreOver sizes block
  pub rows : length (rows_in block) ≡ block_rows

-- the blocks are by the tracks, and each but the last is full
pub record AreRowBlocks (sizes : List ℕ) (blocks : List Decisions) : Type 0 where
  pub over : AllByRecursion (AreOver sizes) blocks
  pub rows : AreBlocks block_rows (map rows_in blocks)

-- the blocks are by the tracks, the last of them has room for one more row, and each other is full
pub record AreOpenBlocks (sizes : List ℕ) (blocks : List Decisions) : Type 0 where
  pub before : List Decisions
  pub last : Decisions
  pub are : blocks ≡ before ++ last ∷ []
  pub full : AllByRecursion (IsFullOver sizes) before
  pub over : AreOver sizes last
  pub room : length (rows_in last) < block_rows

-- the other blocks are sound, and have the same tracks and the same rows
pub record HaveSameRows (blocks others : List Decisions) : Type 0 where
  pub sound : AllByRecursion IsSound others
  pub tracks : map sizes_in others ≡ map sizes_in blocks
  pub rows : map rows_in others ≡ map rows_in blocks
