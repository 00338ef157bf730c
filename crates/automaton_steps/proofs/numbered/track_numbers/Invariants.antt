use Rattle.std.proofs.Common.{◌≡◌, map, decimal}
use Rattle.std.specs.List.{range_with_len}
use Rattle.automaton_steps.proofs.numbered.track_numbers.Given as goal

abbrev pub invariant-loop-number : goal.invariant-loop-number
invariant-loop-number l = l.names.items ≡ map decimal (range_with_len 0 l.number)
