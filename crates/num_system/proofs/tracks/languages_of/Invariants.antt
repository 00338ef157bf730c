use Rattle.std.proofs.Common.{◌≡◌, map, take}
use Rattle.std.specs.Rc.{rc_value}
use Rattle.num_system.specs.Tracks.{languages_of}
use Rattle.num_system.proofs.tracks.languages_of.Given as goal

abbrev pub invariant-loop-system : goal.invariant-loop-system
invariant-loop-system l = map rc_value l.languages.items ≡ languages_of (map rc_value (take l.system-index l.systems))
