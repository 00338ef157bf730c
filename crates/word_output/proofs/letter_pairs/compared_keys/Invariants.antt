use Rattle.std.proofs.Common.{◌≡◌, ◌↔◌, ◌<◌, ℕ, false, length, IsTrue, slice_index_or}
use Rattle.digit_tuple.specs.Explored.{key_at}
use Rattle.word_output.specs.KeyLetters.{KeyCompares}
use Rattle.word_output.proofs.letter_pairs.compared_keys.Given as goal

abbrev pub invariant-loop-number : goal.invariant-loop-number
invariant-loop-number l = record {
  count : length l.flags.items ≡ l.number;
  flags : (q : ℕ) → q < l.number → IsTrue (slice_index_or l.flags.items q false) ↔ KeyCompares l.comparison l.first l.second (key_at l.keys q);
}
