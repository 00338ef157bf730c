use Rattle.std.proofs.Common.{◌≡◌, ◌++◌, map, take}
use Rattle.digit_tuple.specs.Reversed.{transition_to}
use Rattle.pad_rename.proofs.part_reading.add_transitions.Given as goal

abbrev pub invariant-loop-letter : goal.invariant-loop-letter
invariant-loop-letter l = l.transitions.items ≡ l.fn.transitions.items ++ map (λ a. transition_to a l.target) (take l.letter-index l.letters)
