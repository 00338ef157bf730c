use Rattle.std.proofs.Common.{◌==◌}
use Rattle.std.proofs.lemmas.List.Filters.{dedup_is}
use Rattle.product_op.specs.Readings.{readings_in}
use Rattle.product_op.proofs.LiveLetterLemmas.{AreLeading-live}
use Rattle.product_op.proofs.live_pairs.LivePairs.live_letters.Goals as goal

pub returns : goal.returns
returns c =
    let g = c.args.self.now in
    let found = c.in_ok-found.found.items in
    let sorted = c.sort_unstable.new.self.items in
    AreLeading-live g.letters g.op (readings_in g.readers.now) c.requires.pair c.args.key.now found sorted c.dedup.new.self.items c.in_ok-found.ensures c.sort_unstable.ensures.permutation c.sort_unstable.ensures.sorted
    (dedup_is (λ a b. a == b) sorted c.dedup.new.self.items c.dedup.ensures.filtered)
