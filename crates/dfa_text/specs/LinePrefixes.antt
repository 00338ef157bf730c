-- What the line of a tuple begins with.
use Rattle.std.specs.Prelude.{ℕ, ℤ, List, [], ◌++◌, map, slice_index_or, codes, decimal}
use Rattle.std.specs.Fmt.{signed_decimal}
use Rattle.std.specs.List.{join_by, range_with_len}
use Rattle.digit_tuple.specs.Letters.{product}
use Rattle.digit_tuple.specs.Sets.{sizes_of}
use Rattle.digit_tuple.specs.declared.transitions.Transition.{Transition}
use Rattle.dfa_text.specs.RelationText.{tuple_of}

-- the tuple and the arrow after it
abbrev pub tuple_prefix : List ℤ → List ℕ
tuple_prefix tuple = join_by signed_decimal (codes " ") tuple ++ codes " -> "

-- the prefix of a letter's line
abbrev pub letter_prefix : List (List ℤ) → ℕ → List ℕ
letter_prefix sets letter = tuple_prefix (tuple_of sets letter)

-- the prefixes of all letters, in order
abbrev pub prefixes_of : List (List ℤ) → List (List ℕ)
prefixes_of sets = map (letter_prefix sets) (range_with_len 0 (product (sizes_of sets)))

-- a line's target, and its end
abbrev pub target_text : ℕ → List ℕ
target_text target = decimal target ++ codes "\n"

-- the line of a transition whose letter has one of these prefixes, and its end
abbrev pub prefixed_text : List (List ℕ) → Transition → List ℕ
prefixed_text prefixes transition = slice_index_or prefixes transition.letter [] ++ target_text transition.target
