use Rattle.std.proofs.Common.{◌≡◌, map, take}
use Rattle.std.specs.Rc.{rc_value}
use Rattle.num_system.proofs.tracks.shared.Given as goal

abbrev pub invariant-loop-system : goal.invariant-loop-system
invariant-loop-system l = map rc_value l.again.items ≡ map rc_value (take l.system-index l.systems)
