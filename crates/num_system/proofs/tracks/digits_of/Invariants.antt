use Rattle.std.proofs.Common.{◌≡◌, map, take}
use Rattle.std.specs.Rc.{rc_value}
use Rattle.numeration.specs.Representation.{sizes_of}
use Rattle.num_system.specs.Tracks.{systems_of}
use Rattle.num_system.proofs.tracks.digits_of.Given as goal

abbrev pub invariant-loop-system : goal.invariant-loop-system
invariant-loop-system l = l.digits.items ≡ sizes_of (systems_of (map rc_value (take l.system-index l.systems)))
