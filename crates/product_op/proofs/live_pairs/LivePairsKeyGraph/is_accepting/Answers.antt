use Rattle.std.proofs.Common.{◌∙◌, arith}
use Rattle.product_op.proofs.PairReaders.{length-pair}
use Rattle.product_op.proofs.ReaderLemmas.{length-readings}
use Rattle.product_op.proofs.live_pairs.LivePairsKeyGraph.is_accepting.Goals as goal

pub bounds-self-0 : goal.bounds-self-0
bounds-self-0 c =
    let g = c.args.self.now in
    omega (arith, length-pair g.letters g.op g.readers.now c.requires.graph.0)

pub bounds-self-1 : goal.bounds-self-1
bounds-self-1 c =
    let g = c.args.self.now in
    omega (arith, length-pair g.letters g.op g.readers.now c.requires.graph.0)

pub bounds-key-0 : goal.bounds-key-0
bounds-key-0 c = omega (arith, c.requires.key.count, c.requires.graph.0.count)

pub bounds-key-1 : goal.bounds-key-1
bounds-key-1 c = omega (arith, c.requires.key.count, c.requires.graph.0.count)

pub all_accept-requires-clause-key : goal.all_accept-requires-clause-key
all_accept-requires-clause-key c = c.requires.key.count ∙ length-readings c.args.self.now.readers.now

pub all_accept-requires-clause-from : goal.all_accept-requires-clause-from
all_accept-requires-clause-from c =
    let g = c.args.self.now in
    omega (arith, length-pair g.letters g.op g.readers.now c.requires.graph.0)
