-- Runs of digits, which together make the parts of letters.
use Rattle.std.specs.Prelude.{◌≡◌, ℕ, ◌*◌, ◌/◌, ◌%◌, ◌<◌, List}
use Rattle.std.specs.List.{All, sum_by}
use Rattle.digit_tuple.specs.Letters.{product}
use Rattle.digit_tuple.specs.Parts.{letter_part}
use Rattle.track_parts.specs.declared.run.Run.{Run}

-- what a run's digits of a letter make of its part
abbrev pub run_part : ℕ → Run → ℕ
run_part letter run = letter / run.divisor % run.size * run.factor

-- what all together make
abbrev pub sum_of_runs : List Run → ℕ → ℕ
sum_of_runs runs letter = sum_by (run_part letter) runs

-- nothing is divided by 0
abbrev pub IsPositive : Run → Type 0
IsPositive run = (0 < run.divisor) × (0 < run.size)

-- they make the part of each letter on the tracks at these places
pub record AreRuns (sizes places : List ℕ) (runs : List Run) : Type 0 where
  pub whole : (letter : ℕ) → letter < product sizes → sum_of_runs runs letter ≡ letter_part sizes places letter
  pub positive : All IsPositive runs
