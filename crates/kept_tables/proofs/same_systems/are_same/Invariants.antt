use Rattle.std.proofs.Common.{◌≡◌, ℕ, ◌<◌, get_or, map}
use Rattle.std.specs.Rc.{rc_value}
use Rattle.num_system.specs.Tracks.{absent_system}
use Rattle.kept_tables.proofs.same_systems.are_same.Given as goal

-- the systems before it are the same
abbrev pub invariant-loop-track : goal.invariant-loop-track
invariant-loop-track l = (k : ℕ) → k < l.track → get_or (map rc_value l.systems) k absent_system ≡ get_or (map rc_value l.others) k absent_system
