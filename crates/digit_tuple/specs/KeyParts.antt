-- Keys that are one after another in a list of numbers.
use Rattle.std.specs.Prelude.{ℕ, ◌+◌, ◌*◌, ◌≤◌, List, [], ◌∷◌, map, slice_range, slice_index}
use Rattle.std.specs.List.{range_with_len}

-- where the part with a number starts: the first at 0, each other where the one before ends
abbrev pub start_of : List ℕ → ℕ → ℕ
start_of ends number = slice_index (0 ∷ ends) number

-- the parts of the numbers, each from where the one before ends to its own end
abbrev pub parts_from : List ℕ → ℕ → List ℕ → List (List ℕ)
parts_from numbers start [] = []
parts_from numbers start (end ∷ ends) = slice_range numbers start end ∷ parts_from numbers end ends

-- the ends do not go down, and are among so many numbers
abbrev pub AreEnds : ℕ → ℕ → List ℕ → Type 0
AreEnds count start [] = start ≤ count
AreEnds count start (end ∷ ends) = (start ≤ end) × AreEnds count end ends

-- where keys of one width end
abbrev pub even_ends : ℕ → ℕ → List ℕ
even_ends width count = map (λ n. (n + 1) * width) (range_with_len 0 count)
