use Rattle.std.proofs.Common.{take}
use Rattle.residual_classes.specs.StateOrder.{AreAtEnd, AreInverse}
use Rattle.residual_classes.proofs.state_order.move_to_end.Given as goal

abbrev pub invariant-loop-state : goal.invariant-loop-state
invariant-loop-state l = record {
  order : AreInverse l.states.items l.places.items;
  moved : AreAtEnd l.fn.states.items l.states.items (take l.state-index l.set) l.start l.middle l.end;
}
