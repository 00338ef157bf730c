-- Infinitely many words.
use Rattle.std.specs.Prelude.{ℕ, ◌<◌, Bool, List, length, IsTrue}

-- there is a word of the list longer than any number: over an alphabet that is to have infinitely many words
abbrev pub IsInfinite : (List ℕ → Bool) → Type 0
IsInfinite lists = (n : ℕ) → (w : List ℕ) × (n < length w) × IsTrue (lists w)
