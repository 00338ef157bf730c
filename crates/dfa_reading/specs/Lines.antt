-- Lines of a file, and the parts of a line.
use Rattle.std.specs.Prelude.{ℕ, ◌+◌, ◌==◌, Bool, true, false, ◌&&◌, if◌then◌else◌, List, [], ◌∷◌, drop, slice_index, Option, None, Some, option_and_then}
use Rattle.std.specs.List.{slice_split, filter}
use Rattle.text_grammar.specs.Bytes.{is_blank, is_line_end}

-- The lines of a text. A CR before a line's end is a blank at the end of the line. After a line end that is the last byte is an empty line.
abbrev pub lines_of : List ℕ → List (List ℕ)
lines_of text = slice_split is_line_end text

abbrev pub is_empty : List ℕ → Bool
is_empty [] = true
is_empty (b ∷ bytes) = false

abbrev pub has_bytes : List ℕ → Bool
has_bytes [] = false
has_bytes (b ∷ bytes) = true

-- the line after the last: an empty line at the very end of the text is none
abbrev pub line_after : List (List ℕ) → ℕ
line_after [] = 1
line_after (line ∷ []) = if is_empty line then 1 else 2
line_after (line ∷ next ∷ lines) = line_after (next ∷ lines) + 1

-- the parts of a line that blanks divide
abbrev pub parts_of : List ℕ → List (List ℕ)
parts_of line = filter has_bytes (slice_split is_blank line)

-- the lines that are passed over: blank ones, and those whose first part begins with `#`
abbrev pub is_passed_by : List (List ℕ) → Bool
is_passed_by [] = true
is_passed_by (part ∷ parts) = slice_index part 0 == 35

unfoldable pub is_passed : List ℕ → Bool
is_passed line = is_passed_by (parts_of line)

-- with a byte before the first of two texts
abbrev pub before_both : ℕ → Option (List ℕ × List ℕ) → Option (List ℕ × List ℕ)
before_both b None = None
before_both b (Some p) = Some (b ∷ p.0, p.1)

-- what comes before the first `->` of a line, and after it
abbrev pub arrow_at : List ℕ → Option (List ℕ × List ℕ)
arrow_at [] = None
arrow_at (b ∷ bytes) = if b == 45 && (slice_index bytes 0 == 62) then Some ([], drop 1 bytes) else before_both b (arrow_at bytes)

infixl 10 ◌>>=◌
abbrev pub ◌>>=◌ : {A B : Type 0} → Option A → (A → Option B) → Option B
o >>= f = option_and_then f o

-- what a function gives of each element, where it gives something of each
abbrev pub each_of : {A B : Type 0} → (A → Option B) → List A → Option (List B)
each_of f [] = Some []
each_of f (x ∷ xs) = do
  y ← f x
  ys ← each_of f xs
  Some (y ∷ ys)
