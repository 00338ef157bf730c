-- A macro's text, and arguments in its places.
use Rattle.std.specs.Prelude.{ℕ, zero, suc, ◌==◌, nat_lt, ◌&&◌, min, if◌then◌else◌, List, [], ◌∷◌, ◌++◌, slice_index_or, Option, None, Some}
use Rattle.text_grammar.specs.declared.class.Class.TheVariants.{Digit}
use Rattle.text_grammar.specs.Prefixes.{prefix_len, prefix_of}
use Rattle.text_grammar.specs.Numbers.{value_of}

pub data Segment : Type 0 where
  byte : ℕ → Segment
  -- the place of an argument, by the argument's number
  place : ℕ → Segment

-- the number that digits denote; 2^64 - 1 means each greater one
abbrev pub number_of : List ℕ → ℕ
number_of digits = min (value_of digits) 18446744073709551615

-- the segments of some bytes, of which the first n are digits of a place before them
abbrev pub segments_from : ℕ → List ℕ → List Segment
segments_from n [] = []
segments_from (suc n) (b ∷ bs) = segments_from n bs
segments_from zero (b ∷ bs) =
    if b == 37 && nat_lt 0 (prefix_len Digit bs)
    then place (number_of (prefix_of Digit bs)) ∷ segments_from (prefix_len Digit bs) bs
    else byte b ∷ segments_from 0 bs

-- The segments of a macro's text: `%` with all digits that follow it is a place, and a `%` without one is a byte.
abbrev pub segments : List ℕ → List Segment
segments text = segments_from 0 text

-- the first number of a place for which so many arguments are too few
abbrev pub missing : ℕ → List Segment → Option ℕ
missing given [] = None
missing given (byte b ∷ others) = missing given others
missing given (place n ∷ others) = if nat_lt n given then missing given others else Some n

-- the segments, with arguments in their places
abbrev pub filled : List (List ℕ) → List Segment → List ℕ
filled arguments [] = []
filled arguments (byte b ∷ others) = b ∷ filled arguments others
filled arguments (place n ∷ others) = slice_index_or arguments n [] ++ filled arguments others
