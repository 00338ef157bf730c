use Rattle.std.proofs.Common.{ℕ, ◌<◌, get_or, map}
use Rattle.std.specs.Rc.{rc_value}
use Rattle.num_system.specs.Tracks.{absent_system}
use Rattle.combinations.specs.Shapes.{AreSameSystem}
use Rattle.combinations.proofs.shape.have_same_tracks.Given as goal

abbrev pub invariant-loop-track : goal.invariant-loop-track
invariant-loop-track l = (k : ℕ) → k < l.track → AreSameSystem (get_or (map rc_value l.systems) k absent_system) (get_or (map rc_value l.others) k absent_system)
