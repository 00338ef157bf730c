use Rattle.std.proofs.Common.{◌≡◌, [], drop}
use Rattle.dfa_reading.specs.Headers.{with_members}
use Rattle.dfa_reading.proofs.read_header.set_of.Given as goal

abbrev pub invariant-loop-number : goal.invariant-loop-number
invariant-loop-number l = with_members l.set.keys (drop l.number-index l.numbers) ≡ with_members [] l.numbers
