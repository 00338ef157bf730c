-- The digits that letters with a part have on each track.
use Rattle.std.specs.Prelude.{◌≡◌, ℕ, ◌+◌, ◌*◌, ◌<◌, ◌≤◌, ◌⊎◌, List, [], ◌∷◌, length, map, slice_index_or}
use Rattle.std.specs.List.{AllZip, flat_map, range_with_len}
use Rattle.digit_tuple.specs.Letters.{product}
use Rattle.track_parts.specs.declared.span.Span.{Span}

-- the span of a track: all its digits, or if it is at one of the places only the digit there
abbrev pub IsSpanOf : List ℕ → List ℕ → ℕ → ℕ → Span → Type 0
IsSpanOf places digits track size span =
    (span ≡ record { from = 0; count = size })
    ⊎ ((i : ℕ) × (i < length places) × (slice_index_or places i 0 ≡ track) × (span ≡ record { from = slice_index_or digits i 0; count = 1 }))

-- the digits of each span are below the track's size
abbrev pub IsSpan : ℕ → Span → Type 0
IsSpan size span = span.from + span.count ≤ size

abbrev pub AreSpans : List ℕ → List Span → Type 0
AreSpans sizes spans = AllZip IsSpan sizes spans

-- a digit is in a span
abbrev pub IsInSpan : ℕ → Span → Type 0
IsInSpan digit span = (span.from ≤ digit) × (digit < span.from + span.count)

-- letters with a digit on a track that comes before theirs
abbrev pub with_digit : List ℕ → ℕ → ℕ → List ℕ
with_digit letters weight digit = map (λ letter. digit * weight + letter) letters

-- the letters whose digits are in the spans, in order
abbrev pub letters_in : List ℕ → List Span → List ℕ
letters_in [] spans = 0 ∷ []
letters_in (s ∷ ss) [] = []
letters_in (s ∷ ss) (c ∷ cs) = flat_map (with_digit (letters_in ss cs) (product ss)) (range_with_len c.from c.count)
