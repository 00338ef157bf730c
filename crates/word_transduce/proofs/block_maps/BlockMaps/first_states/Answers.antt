use Rattle.std.proofs.Common.{◌+◌, ◌%◌, ap}
use Rattle.word_transduce.proofs.PushLemmas.{values_more}
use Rattle.word_transduce.proofs.block_maps.BlockMaps.first_states.Goals as goal

pub loop-pair-preserved : goal.loop-pair-preserved
loop-pair-preserved c =
    let t = c.args.self.now.transducer.now in
    let k = c.loop-pair.pair in
    values_more (λ pair. pair % t.states + 1) c.loop-pair.states.items c.push.new.self.items k (k % c.states-count.result + 1) c.loop-pair.invariant c.in_ok-push.ensures.items (ap (λ n. k % n + 1) c.states-count.ensures.value)
