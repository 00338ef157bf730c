use Rattle.std.proofs.Common.{◌≡◌, take, map}
use Rattle.std.specs.Rc.{rc_value}
use Rattle.num_system.specs.Tracks.{systems_under}
use Rattle.number_relations.proofs.placed.systems_for.Given as goal

abbrev pub invariant-loop-name : goal.invariant-loop-name
invariant-loop-name l = map rc_value l.kept.items ≡ systems_under l.under (map rc_value l.systems) (take l.name-index l.names)
