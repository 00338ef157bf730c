use Rattle.std.proofs.Common.{◌≡◌, ◌++◌, ◌<◌}
use Rattle.digit_tuple.specs.Deterministic.{states_of}
use Rattle.word_walk.specs.Levels.{least_word}
use Rattle.word_walk.proofs.listing.Listing.push_least.Given as goal

abbrev pub invariant-loop-rest : goal.invariant-loop-rest
invariant-loop-rest l = record {
  same : l.self.dfa ≡ l.fn.self.dfa;
  within : l.from < states_of l.fn.self.dfa;
  word : l.word.items ++ least_word l.fn.self.dfa l.rest l.from ≡ l.fn.word.items ++ least_word l.fn.self.dfa l.size l.state;
}
