use Rattle.std.proofs.Common.{◌≡◌, take}
use Rattle.track_parts.specs.Runs.{sum_of_runs}
use Rattle.track_parts.proofs.run_list.part_by.Given as goal

abbrev pub invariant-loop-run : goal.invariant-loop-run
invariant-loop-run l = l.part ≡ sum_of_runs (take l.run-index l.runs) l.letter
