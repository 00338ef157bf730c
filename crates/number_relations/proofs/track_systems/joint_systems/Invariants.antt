use Rattle.std.proofs.Common.{◌≡◌, ◌++◌, map, take}
use Rattle.std.specs.Rc.{rc_value}
use Rattle.num_system.specs.Tracks.{systems_under}
use Rattle.number_relations.proofs.track_systems.joint_systems.Given as goal

abbrev pub invariant-loop-name : goal.invariant-loop-name
invariant-loop-name l = map rc_value l.systems.items ≡ systems_under (l.a.names ++ l.b.names) (l.a.systems ++ l.b.systems) (take l.name-index l.names)
