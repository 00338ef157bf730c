use Rattle.std.proofs.Common.{◌≡◌, length}
use Rattle.dfa_reading.specs.Lines.{parts_of, each_of}
use Rattle.dfa_reading.specs.Systems.{system_of}
use Rattle.dfa_reading.proofs.ReadHeaders.{with_prefix}
use Rattle.dfa_reading.proofs.read_header.systems.Given as goal

abbrev pub invariant-parts : goal.invariant-parts
invariant-parts l = with_prefix l.systems.items (each_of system_of (parts_of l.rest)) ≡ each_of system_of (parts_of l.line)

abbrev pub decreases-parts : goal.decreases-parts
decreases-parts l = length l.rest
