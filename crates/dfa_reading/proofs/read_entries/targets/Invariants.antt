use Rattle.std.proofs.Common.{◌≡◌, length}
use Rattle.dfa_reading.specs.Entries.{state_number}
use Rattle.dfa_reading.specs.Lines.{parts_of, each_of}
use Rattle.dfa_reading.proofs.ReadHeaders.{with_prefix}
use Rattle.dfa_reading.proofs.read_entries.targets.Given as goal

abbrev pub invariant-targets : goal.invariant-targets
invariant-targets l = with_prefix l.targets.items (each_of state_number (parts_of l.rest)) ≡ each_of state_number (parts_of l.text)

abbrev pub decreases-targets : goal.decreases-targets
decreases-targets l = length l.rest
