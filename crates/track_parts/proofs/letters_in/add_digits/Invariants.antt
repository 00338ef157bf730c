use Rattle.std.proofs.Common.{◌≡◌, ◌++◌}
use Rattle.std.specs.List.{flat_map, range_with_len}
use Rattle.track_parts.specs.Spans.{with_digit}
use Rattle.track_parts.proofs.letters_in.add_digits.Given as goal

abbrev pub invariant-loop-number : goal.invariant-loop-number
invariant-loop-number l = l.out.items ≡ l.fn.out.items ++ flat_map (with_digit l.letters l.weight) (range_with_len l.span.from l.number)
