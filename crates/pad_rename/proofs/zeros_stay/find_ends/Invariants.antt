use Rattle.pad_rename.specs.ZerosStay.{AreEnds}
use Rattle.pad_rename.proofs.zeros_stay.find_ends.Given as goal

abbrev pub invariant-loop-state : goal.invariant-loop-state
invariant-loop-state l = AreEnds l.a l.state l.returns l.gap
