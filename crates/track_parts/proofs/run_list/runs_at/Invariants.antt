use Rattle.std.proofs.Common.{◌≡◌, ℕ, ◌+◌, ◌<◌, drop}
use Rattle.std.specs.List.{All}
use Rattle.digit_tuple.specs.Letters.{product}
use Rattle.digit_tuple.specs.Parts.{letter_part, picked}
use Rattle.track_parts.specs.Runs.{IsPositive, sum_of_runs}
use Rattle.track_parts.proofs.RunLemmas.{part_from}
use Rattle.track_parts.proofs.run_list.runs_at.Given as goal

abbrev pub invariant-loop-place : goal.invariant-loop-place
invariant-loop-place l = record {
  whole : (letter : ℕ) → letter < product l.alphabet → sum_of_runs l.runs.items letter + part_from l.alphabet l.places l.place-index letter ≡ letter_part l.alphabet l.places letter;
  factor : l.factor ≡ product (picked (drop l.place-index l.places) l.alphabet);
  positive : All IsPositive l.runs.items;
}
