-- Blocks of elements: a long list as shorter ones, of which all but the last have the same length.
use Rattle.std.specs.Prelude.{◌≡◌, ℕ, ◌≤◌, List, [], ◌∷◌, length, ⊤}

-- each of the blocks has so many elements, but for the last, which may have fewer
abbrev pub AreBlocks : {A : Type 0} → ℕ → List (List A) → Type 0
AreBlocks size [] = ⊤
AreBlocks size (block ∷ []) = length block ≤ size
AreBlocks size (block ∷ (next ∷ blocks)) = (length block ≡ size) × AreBlocks size (next ∷ blocks)
