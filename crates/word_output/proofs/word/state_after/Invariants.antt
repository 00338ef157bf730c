use Rattle.std.proofs.Common.{◌≡◌, ◌<◌, drop}
use Rattle.digit_tuple.specs.Deterministic.{run_of, states_of}
use Rattle.word_output.proofs.word.state_after.Given as goal

abbrev pub invariant-loop-letter : goal.invariant-loop-letter
invariant-loop-letter l = record {
  in_range : l.state < states_of l.table;
  rest : run_of l.table l.state (drop l.letter-index l.word) ≡ run_of l.table 0 l.word;
}
