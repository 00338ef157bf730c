use Rattle.digit_tuple.specs.DfaRows.{states_in}
use Rattle.pad_rename.specs.PartReading.{AreReading}
use Rattle.pad_rename.proofs.part_reading.states_reading.Given as goal

abbrev pub invariant-loop-state : goal.invariant-loop-state
invariant-loop-state l = AreReading l.dfa l.parts l.state (states_in l.states.items)
