-- Where keys are in a list of numbers.
use Rattle.std.specs.Prelude.{ℕ, ◌≤◌, List, map, slice_range}
use Rattle.std.specs.List.{All}
use Rattle.digit_tuple.specs.Keys.{KeyTransition}
use Rattle.digit_tuple.specs.declared.key_transitions.KeySpan.{KeySpan}

-- the transition whose key is among the numbers
abbrev pub transition_in : List ℕ → KeySpan → KeyTransition
transition_in numbers span = record { letter = span.letter; key = slice_range numbers span.start span.end }

abbrev pub transitions_in : List ℕ → List KeySpan → List KeyTransition
transitions_in numbers spans = map (transition_in numbers) spans

-- the keys are among so many numbers
abbrev pub AreSpans : ℕ → List KeySpan → Type 0
AreSpans count spans = All (λ span. (span.start ≤ span.end) × (span.end ≤ count)) spans
