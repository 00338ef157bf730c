-- Expressions over letters of any type, and the places of their letters.
use Rattle.std.specs.Prelude.{ℕ, ◌+◌, List, [], ◌∷◌, ◌++◌, length, Option, None, Some}

-- an expression: the empty word, a letter, any letter, one of two expressions, two expressions one after the other, an expression any
-- number of times, at least once, or at most once
pub data Expression (L : Type 0) : Type 0 where
  empty : Expression L
  letter : L → Expression L
  any : Expression L
  either : Expression L → Expression L → Expression L
  follow : Expression L → Expression L → Expression L
  star : Expression L → Expression L
  plus : Expression L → Expression L
  optional : Expression L → Expression L

-- the occurrences of letters in an expression, in the order of its text: a letter, or none where any letter may be
abbrev pub occurrences_in : {L : Type 0} → Expression L → List (Option L)
occurrences_in empty = []
occurrences_in (letter x) = Some x ∷ []
occurrences_in any = None ∷ []
occurrences_in (either e f) = occurrences_in e ++ occurrences_in f
occurrences_in (follow e f) = occurrences_in e ++ occurrences_in f
occurrences_in (star e) = occurrences_in e
occurrences_in (plus e) = occurrences_in e
occurrences_in (optional e) = occurrences_in e

-- the expression whose letters are the places of the occurrences, counted from a number on: its words are the marked words
abbrev pub placed : {L : Type 0} → ℕ → Expression L → Expression ℕ
placed n empty = empty
placed n (letter x) = letter n
placed n any = letter n
placed n (either e f) = either (placed n e) (placed (n + length (occurrences_in e)) f)
placed n (follow e f) = follow (placed n e) (placed (n + length (occurrences_in e)) f)
placed n (star e) = star (placed n e)
placed n (plus e) = plus (placed n e)
placed n (optional e) = optional (placed n e)
