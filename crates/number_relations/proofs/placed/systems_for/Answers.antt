use Rattle.std.proofs.Common.{sym, subst}
use Rattle.std.specs.List.{Contains}
use Rattle.number_relations.proofs.placed.systems_for.Goals as goal

pub system_for-requires-clause-there : goal.system_for-requires-clause-there
system_for-requires-clause-there c =
    subst (λ n. Contains c.args.under.now n) (sym c.name-item.is) (c.requires.there c.loop-name.name-index c.name-item.result c.loop-name-test.true)
