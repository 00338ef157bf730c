use Rattle.std.proofs.Common.{◌≡◌, ◌↔◌, ◌<◌, ℕ, IsTrue, false, length, slice_index_or}
use Rattle.word_output.specs.LetterSets.{HasComparedLetter}
use Rattle.word_output.proofs.letter_set.compared.Given as goal

abbrev pub invariant-loop-state : goal.invariant-loop-state
invariant-loop-state l = record {
  count : length l.flags.items ≡ l.state;
  flags : (q : ℕ) → q < l.state → IsTrue (slice_index_or l.flags.items q false) ↔ HasComparedLetter l.comparison l.letter l.function q;
}
