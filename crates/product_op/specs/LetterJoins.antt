-- Letters from the parts that two automata read of them.
use Rattle.std.specs.Prelude.{◌≡◌, ℕ, ◌+◌, ◌<◌, List, length, slice_index_or}
use Rattle.std.specs.List.{Contains}
use Rattle.digit_tuple.specs.declared.transitions.Transition.{Transition}
use Rattle.digit_tuple.specs.Deterministic.{letters_of}
use Rattle.product_op.specs.declared.letter_joins.LeastLetter.{LeastLetter}
use Rattle.product_op.specs.declared.letter_joins.LetterJoin.{LetterJoin}
use Rattle.product_op.specs.Readings.{Reading, part_read}

-- those of a part
abbrev pub least_of : List LeastLetter → ℕ → LeastLetter
least_of all part = slice_index_or all part (record { letter = 0; shared = 0 })

-- the shared letters are one, and the letter is the sum of both least letters less it
abbrev pub AddUp : LeastLetter → LeastLetter → ℕ → Type 0
AddUp x y a = (x.shared ≡ y.shared) × (a + x.shared ≡ x.letter + y.letter)

-- each letter is such a sum of those of its parts
pub record IsJoin (letters : ℕ) (r s : Reading) (join : LetterJoin) : Type 0 where
  pub positive : 0 < letters
  pub first_count : length join.first.items ≡ letters_of r.automaton
  pub second_count : length join.second.items ≡ letters_of s.automaton
  pub adds_up : (a : ℕ) → a < letters → AddUp (least_of join.first.items (part_read r a)) (least_of join.second.items (part_read s a)) a

abbrev pub letter_at : List Transition → ℕ → ℕ
letter_at row i = (slice_index_or row i (record { letter = 0; target = 0 })).letter

-- the letters are found that are the sums of these and of those of one of the first so many transitions
abbrev pub HoldSums : ℕ → LeastLetter → List LeastLetter → List Transition → ℕ → List ℕ → Type 0
HoldSums letters own others row count found = (i : ℕ) → i < count → (a : ℕ) → a < letters → AddUp own (least_of others (letter_at row i)) a → Contains found a

-- the letters are found that are the sums of those of one of the first so many transitions and of one of the others
abbrev pub HoldJoined : ℕ → LetterJoin → List Transition → List Transition → ℕ → List ℕ → Type 0
HoldJoined letters join first second count found =
    (i : ℕ) → i < count → HoldSums letters (least_of join.first.items (letter_at first i)) join.second.items second (length second) found
