-- The tracks of what is made: those of variables, and fresh ones for the values of terms.
use Rattle.std.specs.Prelude.{ℕ, ◌==◌, Bool, false, ◌||◌, List, [], ◌∷◌, not, filter, if◌then◌else◌}
use Rattle.std.specs.Str.{bytes_eq}
use Rattle.formula_parse.specs.Tokens.{Name}
use Rattle.formula_truth.specs.Assignments.{Assignment}

-- a variable's own track, or a fresh one, by its number
pub data Track : Type 0 where
  own : Name → Track
  fresh : ℕ → Track

abbrev pub same_track : Track → Track → Bool
same_track (own m) (own n) = bytes_eq m n
same_track (own m) (fresh j) = false
same_track (fresh i) (own n) = false
same_track (fresh i) (fresh j) = i == j

-- a number on each track
abbrev pub Numbers : Type 0
Numbers = Track → ℕ

-- the same numbers, but for one track
abbrev pub with_number : Track → ℕ → Numbers → Numbers
with_number t k a = λ u. if same_track t u then k else a u

-- the numbers of the variables
abbrev pub of_variables : Numbers → Assignment
of_variables a = λ n. a (own n)

-- whether the track is among some
abbrev pub has_track : List Track → Track → Bool
has_track [] t = false
has_track (u ∷ us) t = same_track u t || has_track us t

-- the tracks but one
abbrev pub without : Track → List Track → List Track
without t us = filter (λ u. not (same_track t u)) us
