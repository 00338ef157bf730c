use Rattle.named_systems.proofs.KnownSteps.{names_more}
use Rattle.named_systems.proofs.track_systems.systems_named.Goals as goal

pub loop-name-preserved : goal.loop-name-preserved
loop-name-preserved c =
    names_more c.args.users.now c.args.names.now c.loop-name.name-index c.name-item.result c.in_ok-copy.field-0 c.in_ok-meaning.field-0 c.loop-name.systems.items c.push.new.self.items c.loop-name-test.true c.name-item.is c.in_ok-copy.ensures c.loop-name.invariant
    c.in_ok-meaning.ensures c.in_ok-push.ensures.items
