use Rattle.std.proofs.Common.{arith}
use Rattle.residual_classes.proofs.PendingLemmas.{AreMarked-pop, marked_room, taken_once}
use Rattle.residual_classes.proofs.pending_classes.PendingClasses.pop.Goals as goal

pub index_mut-requires : goal.index_mut-requires
index_mut-requires c = omega (arith, marked_room c.self.inside.classes.items c.pop.new.self.items c.self.inside.flags.items c.in_ok-class.class c.self.invariant c.in_ok-class.ensures.items)

pub invariant_of-self-2 : goal.invariant_of-self-2
invariant_of-self-2 c = AreMarked-pop c.self.inside.classes.items c.pop.new.self.items c.self.inside.flags.items c.in_ok-class.class c.self.invariant c.in_ok-class.ensures.items

pub returns-clause-once : goal.returns-clause-once
returns-clause-once c = taken_once c.self.inside.classes.items c.pop.new.self.items c.self.inside.flags.items c.in_ok-class.class c.self.invariant c.in_ok-class.ensures.items
