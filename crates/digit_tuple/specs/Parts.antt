-- The part of a letter, and of a word, on some of its tracks. Places of tracks are counted from 0.
use Rattle.std.specs.Prelude.{ℕ, ◌/◌, ◌%◌, List, [], ◌∷◌, map, slice_index_or}
use Rattle.std.specs.List.{range_with_len}
use Rattle.digit_tuple.specs.Letters.{product, code_of}

-- the digits of a letter on tracks of these sizes
abbrev pub digits_of : List ℕ → ℕ → List ℕ
digits_of [] letter = []
digits_of (s ∷ ss) letter = letter / product ss ∷ digits_of ss (letter % product ss)

-- the entries at these places
abbrev pub picked : List ℕ → List ℕ → List ℕ
picked places entries = map (λ place. slice_index_or entries place 0) places

-- the letter of the digits at these places, on the tracks at these places
abbrev pub letter_part : List ℕ → List ℕ → ℕ → ℕ
letter_part sizes places letter = code_of (picked places sizes) (picked places (digits_of sizes letter))

-- the part of a word: that of each of its letters
abbrev pub part : List ℕ → List ℕ → List ℕ → List ℕ
part sizes places word = map (letter_part sizes places) word

-- the part of each letter of the alphabet
abbrev pub parts_of_letters : List ℕ → List ℕ → List ℕ
parts_of_letters sizes places = map (letter_part sizes places) (range_with_len 0 (product sizes))
