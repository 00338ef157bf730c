use Rattle.std.proofs.Common.{take}
use Rattle.named_systems.specs.TrackSystems.{AreNamesOf}
use Rattle.named_systems.proofs.track_systems.systems_named.Given as goal

-- the systems of the names before it
abbrev pub invariant-loop-name : goal.invariant-loop-name
invariant-loop-name l = AreNamesOf l.users (take l.name-index l.names) l.systems.items
