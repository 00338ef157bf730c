use Rattle.std.proofs.Common.{◌==◌, ℕ, List, length, inl, inr, sym, ap, ◌∙◌}
use Rattle.std.proofs.lemmas.Bool.{false≢true}
use Rattle.product_op.specs.Readings.{readings_in}
use Rattle.product_op.specs.DeadPairs.{live_pair_after}
use Rattle.product_op.specs.LeadingLetters.{AreFewLetters, AreLeading}
use Rattle.product_op.proofs.FoundLetters.{AreLeading-all}
use Rattle.product_op.proofs.live_pairs.LivePairsKeyGraph.transitions.Goals as goal

pub push_transitions-requires-clause-letters : goal.push_transitions-requires-clause-letters
push_transitions-requires-clause-letters c = by c.requires.graph.1
  where
    by : AreFewLetters c.args.self.now.letters c.args.self.now.few.now → AreLeading c.args.self.now.letters (live_pair_after c.args.self.now.op (readings_in c.args.self.now.readers.now) c.args.key.now) c.args.self.now.few.now
    by (inl none) = absurd (false≢true (sym c.if-not-is_empty.true ∙ c.is_empty.ensures ∙ ap (λ (ns : List ℕ). length ns == 0) none))
    by (inr all) = AreLeading-all c.args.self.now.letters (live_pair_after c.args.self.now.op (readings_in c.args.self.now.readers.now) c.args.key.now) c.args.self.now.few.now all
