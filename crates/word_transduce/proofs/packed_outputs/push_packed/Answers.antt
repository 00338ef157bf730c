use Rattle.word_transduce.specs.PackedOutputs.{group_of}
use Rattle.word_transduce.proofs.PushLemmas.{values_push}
use Rattle.word_transduce.proofs.packed_outputs.push_packed.Goals as goal

pub loop-group-preserved : goal.loop-group-preserved
loop-group-preserved c =
    values_push (group_of c.args.outputs.now) c.args.key.now.items c.loop-group.key.items c.push.new.self.items c.loop-group.group c.group_of.result
    c.loop-group.invariant c.in_ok-push.ensures.items c.group_of.ensures
