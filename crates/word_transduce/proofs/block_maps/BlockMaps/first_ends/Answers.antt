use Rattle.word_transduce.specs.BlockMaps.{first_end}
use Rattle.word_transduce.proofs.PushLemmas.{values_more}
use Rattle.word_transduce.proofs.block_maps.BlockMaps.first_ends.Goals as goal

pub loop-pair-preserved : goal.loop-pair-preserved
loop-pair-preserved c =
    values_more (first_end c.args.self.now.transducer.now c.args.self.now.function.now) c.loop-pair.ends.items c.push.new.self.items c.loop-pair.pair c.first_end.result
    c.loop-pair.invariant c.in_ok-push.ensures.items c.first_end.ensures
