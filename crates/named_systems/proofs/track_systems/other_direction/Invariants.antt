use Rattle.std.proofs.Common.{take}
use Rattle.std.specs.List.{All}
use Rattle.named_systems.specs.TrackSystems.{IsIn}
use Rattle.named_systems.proofs.track_systems.other_direction.Given as goal

abbrev pub invariant-loop-place : goal.invariant-loop-place
invariant-loop-place l = All (IsIn l.direction) (take l.place l.systems)
