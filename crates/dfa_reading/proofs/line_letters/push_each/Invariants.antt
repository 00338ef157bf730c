use Rattle.std.proofs.Common.{◌≡◌, ◌*◌, ◌++◌}
use Rattle.std.specs.List.{flat_map, range_with_len}
use Rattle.dfa_reading.specs.LineLetters.{shifted}
use Rattle.dfa_reading.proofs.line_letters.push_each.Given as goal

abbrev pub invariant-loop-digit : goal.invariant-loop-digit
invariant-loop-digit l = l.out.items ≡ l.initial.out.items ++ flat_map (λ digit. shifted (digit * l.weight) l.letters) (range_with_len 0 l.digit)
