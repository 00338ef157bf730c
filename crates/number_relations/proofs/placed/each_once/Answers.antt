use Rattle.number_relations.proofs.OnceLemmas.{once_step}
use Rattle.number_relations.proofs.placed.each_once.Goals as goal

pub loop-name-preserved : goal.loop-name-preserved
loop-name-preserved c =
    once_step c.args.names.now c.loop-name.name-index c.name-item.result c.loop-name-test.true c.name-item.is c.loop-name.once.items _ c.loop-name.invariant c.in_ok-add_once.ensures.known c.in_ok-add_once.ensures.unknown
