use Rattle.std.proofs.Common.{◌≡◌, ◌++◌, ◌<◌, drop}
use Rattle.digit_tuple.specs.Deterministic.{states_of}
use Rattle.word_walk.specs.Raising.{path_of}
use Rattle.word_walk.proofs.listing.Listing.path.Given as goal

abbrev pub invariant-loop-letter : goal.invariant-loop-letter
invariant-loop-letter l = record {
  within : l.state < states_of l.self.dfa;
  path : l.path.items ++ path_of l.self.dfa l.state (drop l.letter-index l.word) ≡ path_of l.self.dfa 0 l.word;
}
