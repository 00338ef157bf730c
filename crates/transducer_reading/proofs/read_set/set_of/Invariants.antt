use Rattle.std.proofs.Common.{◌≡◌, [], drop}
use Rattle.dfa_reading.specs.Headers.{with_members}
use Rattle.transducer_reading.proofs.read_set.set_of.Given as goal

abbrev pub invariant-loop-number : goal.invariant-loop-number
invariant-loop-number l = with_members l.set.keys (drop l.number-index l.numbers) ≡ with_members [] l.numbers
