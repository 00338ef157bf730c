use Rattle.std.proofs.Common.{◌≡◌, drop}
use Rattle.word_walk.specs.Levels.{first_live}
use Rattle.word_walk.proofs.listing.Listing.first_live.Given as goal

abbrev pub invariant-loop-transition : goal.invariant-loop-transition
invariant-loop-transition l = record {
  same : l.self.dfa ≡ l.fn.self.dfa;
  rest : first_live l.fn.self.dfa l.size l.from l.row ≡ first_live l.fn.self.dfa l.size l.from (drop l.transition-index l.row);
}
