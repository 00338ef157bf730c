-- The results of the lines of one state. Nobody has to believe this: it serves the search for conflicts.
use Rattle.std.specs.Prelude.{◌≡◌, ℕ, ◌==◌, Bool, false, ◌&&◌, not, ℤ, List, Option, None, Some, is_none, option_map, IsTrue}
use Rattle.std.specs.List.{Contains, find}
use Rattle.std.specs.Ordering.{int_eq}
use Rattle.indexmap.specs.IndexMap.{get}
use Rattle.transducer_reading.specs.declared.results.Results.{Results}
use Rattle.transducer_reading.specs.declared.transducer.TransducerLine.{TransducerLine}
use Rattle.transducer_reading.specs.Transducers.{HaveOneResult}
use Rattle.transducer_reading.specs.Reading.{share_letter, differ}

abbrev pub result_in : TransducerLine → ℕ × ℤ
result_in line = (line.target, line.output)

-- this letter, and not `*`
abbrev pub is_letter : ℤ → Option ℤ → Bool
is_letter letter None = false
is_letter letter (Some other) = int_eq letter other

-- the result of the first line whose letter passes
abbrev pub first_result : (Option ℤ → Bool) → List (ℕ × TransducerLine) → Option (ℕ × ℤ)
first_result passes lines = option_map (λ line. result_in line.1) (find (λ line. passes line.1.letter) lines)

-- there is another result
abbrev pub differs_from : ℕ × ℤ → Option (ℕ × ℤ) → Bool
differs_from result None = false
differs_from result (Some other) = not ((result.0 == other.0) && int_eq result.1 other.1)

-- by some letter two lines of one state have different results
abbrev pub clashes : TransducerLine → ℕ × TransducerLine → Bool
clashes line other = share_letter line.letter other.1.letter && differ line other.1

-- no two of the lines do
abbrev pub AreAgreed : List (ℕ × TransducerLine) → Type 0
AreAgreed lines = (line other : ℕ × TransducerLine) → Contains lines line → Contains lines other → IsTrue (share_letter line.1.letter other.1.letter) → HaveOneResult line.1 other.1

-- these are the results of the lines
pub record AreResults (lines : List (ℕ × TransducerLine)) (results : Results) : Type 0 where
  pub star : results.star ≡ first_result is_none lines
  pub letters : (letter : ℤ) → get int_eq results.by_letter letter ≡ first_result (is_letter letter) lines
