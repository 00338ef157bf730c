-- Where a text first breaks a grammar, for any grammar over any type of marks.
use Rattle.std.specs.Prelude.{◌≡◌, ℕ, ◌+◌, ◌<◌, ◌≤◌, List, ◌++◌, length, take}

-- some text of the grammar begins so
abbrev pub Begins : {X T : Type 0} → (List X → T → Type 0) → List X → Type 0
Begins {X} {T} grammar prefix = (more : List X) × (tree : T) × grammar (prefix ++ more) tree

-- The first place at which no text of the grammar goes on: what comes before it begins one, and with it none does. Where every prefix of
-- the text begins one and the text itself is none, it is the text's length.
pub record BreaksAt {X T : Type 0} (grammar : List X → T → Type 0) (text : List X) (at : ℕ) : Type 0 where
  pub within : at ≤ length text
  pub before : Begins grammar (take at text)
  pub there : at < length text → Begins grammar (take (at + 1) text) → ⊥
  pub end : at ≡ length text → (tree : T) → grammar text tree → ⊥
