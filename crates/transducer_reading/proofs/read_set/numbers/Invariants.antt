use Rattle.std.proofs.Common.{◌≡◌, length, eqb}
use Rattle.std.specs.List.{slice_split}
use Rattle.dfa_reading.specs.Headers.{member_of}
use Rattle.dfa_reading.specs.Lines.{each_of}
use Rattle.dfa_reading.proofs.ReadHeaders.{with_prefix}
use Rattle.transducer_reading.proofs.read_set.numbers.Given as goal

abbrev pub invariant-numbers : goal.invariant-numbers
invariant-numbers l = with_prefix l.numbers.items (each_of member_of (slice_split (λ b. eqb b 44) l.rest)) ≡ each_of member_of (slice_split (λ b. eqb b 44) l.bytes)

abbrev pub decreases-numbers : goal.decreases-numbers
decreases-numbers l = length l.rest
