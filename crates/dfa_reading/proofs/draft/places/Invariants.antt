use Rattle.std.proofs.Common.{◌≡◌, drop}
use Rattle.dfa_reading.specs.Lines.{each_of}
use Rattle.dfa_reading.specs.Reading.{state_at}
use Rattle.dfa_reading.proofs.ReadHeaders.{with_prefix}
use Rattle.dfa_reading.proofs.draft.places.Given as goal

abbrev pub invariant-loop-target : goal.invariant-loop-target
invariant-loop-target l = with_prefix l.places.items (each_of (state_at l.numbers.keys) (drop l.target-index l.targets)) ≡ each_of (state_at l.numbers.keys) l.targets
