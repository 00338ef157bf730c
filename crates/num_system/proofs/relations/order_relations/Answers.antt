use Rattle.std.proofs.Common.{length, ap}
use Rattle.num_system.proofs.SealingLemmas.{has_letter}
use Rattle.num_system.proofs.relations.order_relations.Goals as goal

pub order_of-requires-clause-track : goal.order_of-requires-clause-track
order_of-requires-clause-track c = ap length c.requires.2.accepts.sizes

pub equality_within-requires-clause-within : goal.equality_within-requires-clause-within
equality_within-requires-clause-within c =
    record { fits = c.in_ok-order.ensures.fits; width = (c.in_ok-order.order.width, c.in_ok-order.ensures.within, c.in_ok-order.ensures.width) }

pub zero_of-requires : goal.zero_of-requires
zero_of-requires c = has_letter c.requires.0 c.args.language.now c.requires.1 c.requires.2.accepts.sizes

pub returns-clause-relations : goal.returns-clause-relations
returns-clause-relations c s is language = record {
  equality = c.in_ok-equal.ensures.equality s is language;
  equality_canonical = c.in_ok-equal.ensures.canonical;
  order = c.in_ok-order.ensures.order s is language;
  order_canonical = c.in_ok-order.ensures.canonical;
  zeros = c.in_ok-zero.ensures.zero c.args.direction s is language.sizes;
  zeros_canonical = c.in_ok-zero.ensures.canonical;
}

pub returns-clause-within : goal.returns-clause-within
returns-clause-within c =
    record { fits = c.in_ok-order.ensures.fits; width = (c.in_ok-order.order.width, c.in_ok-order.ensures.within, c.in_ok-order.ensures.width) }
