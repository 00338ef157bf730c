use Rattle.std.proofs.Common.{◌≡◌, ◌<◌, length}
use Rattle.std.specs.List.{All}
use Rattle.digit_tuple.specs.Deterministic.{letters_of}
use Rattle.product_op.proofs.letter_joins.least_letters.Given as goal

abbrev pub invariant-loop-passed : goal.invariant-loop-passed
invariant-loop-passed l = record {
  count : length l.least.items ≡ letters_of l.reader.dfa.now;
  letters : All (λ a. a < l.letters) l.least.items;
}
