use Rattle.residual_classes.specs.PlaceSlots.{ArePassed}
use Rattle.residual_classes.proofs.first_places.PlaceSlots.slot_of.Given as goal

abbrev pub invariant-loop-slot : goal.invariant-loop-slot
invariant-loop-slot l = ArePassed l.self l.numbers l.number l.slot
