use Rattle.std.proofs.Common.{◌≡◌, ◌<◌, ℕ, false, length, slice_index_or}
use Rattle.digit_tuple.specs.Explored.{key_at}
use Rattle.lang_ops.specs.PairKeys.{key_holds}
use Rattle.lang_ops.proofs.pairs.combined_keys.Given as goal

abbrev pub invariant-loop-number : goal.invariant-loop-number
invariant-loop-number l = record {
  count : length l.flags.items ≡ l.number;
  flags : (q : ℕ) → q < l.number → slice_index_or l.flags.items q false ≡ key_holds l.op l.a l.b (key_at l.keys q);
}
