use Rattle.std.proofs.Common.{◌≡◌, length, eqb}
use Rattle.std.specs.List.{slice_split}
use Rattle.dfa_reading.specs.Headers.{sets_between}
use Rattle.dfa_reading.proofs.ReadHeaders.{with_prefix}
use Rattle.dfa_reading.proofs.read_header.sets.Given as goal

abbrev pub invariant-sets : goal.invariant-sets
invariant-sets l = with_prefix l.sets (sets_between (slice_split (λ b. eqb b 125) l.rest)) ≡ sets_between (slice_split (λ b. eqb b 125) l.line)

abbrev pub decreases-sets : goal.decreases-sets
decreases-sets l = length l.rest
