use Rattle.std.proofs.Common.{◌≡◌, ℕ, ◌<◌, ◌^◌, length}
use Rattle.digit_tuple.specs.Deterministic.{states_of}
use Rattle.residual_classes.specs.Classes.{class_of}
use Rattle.residual_classes.specs.OutputParts.{part_number}
use Rattle.residual_classes.proofs.output_parts.part_numbers.Given as goal

abbrev pub invariant-loop-place : goal.invariant-loop-place
invariant-loop-place l = record {
  width : length l.numbers.items ≡ l.place;
  outputs : (q : ℕ) → q < l.place → class_of l.machine.outputs.now q < 2 ^ 32;
  are : (q : ℕ) → q < l.place → class_of l.numbers.items q ≡ part_number (states_of l.machine.dfa.now) (class_of l.classes q) (class_of l.machine.outputs.now q);
}
