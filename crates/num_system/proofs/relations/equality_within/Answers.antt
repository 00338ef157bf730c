use Rattle.std.proofs.Common.{Err, ap}
use Rattle.number_order.specs.Orders.{pair_sizes}
use Rattle.num_system.proofs.StepLemmas.{not_too_large}
use Rattle.num_system.proofs.SealingLemmas.{none_beyond}
use Rattle.num_system.proofs.relations.equality_within.Goals as goal

pub unreachable-requires : goal.unreachable-requires
unreachable-requires c = not_too_large (pair_sizes c.args.language.now) c.requires.within.fits (c.in-Err-Letters.ensures.letters.0 (ap Err c.in-Err-Letters.field-0-is))

pub unreachable-requires-in-Err-States : goal.unreachable-requires-in-Err-States
unreachable-requires-in-Err-States c = none_beyond c.args.direction c.args.language.now c.args.limit.most c.requires.within (c.in-Err-States.ensures.states (ap Err c.in-Err-States.field-0-is))
