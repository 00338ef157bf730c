use Rattle.digit_tuple.proofs.SlotLemmas.{AreWalked}
use Rattle.digit_tuple.proofs.slots.SlotTable.doubled.Given as goal

abbrev pub invariant-loop-slot : goal.invariant-loop-slot
invariant-loop-slot l = AreWalked l.self l.more l.slot-index
