use Rattle.std.proofs.Common.{◌<◌, arith}
use Rattle.word_transduce.proofs.FoundLines.{target_within}
use Rattle.word_transduce.proofs.StateLemmas.{target_below}
use Rattle.word_transduce.proofs.block_maps.BlockMaps.first_end.Goals as goal

pub overflow_cast-result : goal.overflow_cast-result
overflow_cast-result c =
    let t = c.args.self.now.transducer.now in
    let below : c.in-Some-step.target < t.states = target_below _ c.in-Some-step.target t.states (target_within t c.requires.graph.transducer _ _) c.in-Some-step.ensures.target in
    omega (arith, below, c.requires.graph.few.states)

pub overflow_add-result : goal.overflow_add-result
overflow_add-result c =
    let t = c.args.self.now.transducer.now in
    let below : c.in-Some-step.target < t.states = target_below _ c.in-Some-step.target t.states (target_within t c.requires.graph.transducer _ _) c.in-Some-step.ensures.target in
    omega (arith, below, c.requires.graph.few.states)
