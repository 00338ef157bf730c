use Rattle.std.proofs.Common.{◌≡◌, map, take}
use Rattle.std.specs.Rc.{rc_value}
use Rattle.command_parts.specs.WordPrinting.{tracks_named}
use Rattle.command_parts.proofs.named_tracks.tracks_of.Given as goal

abbrev pub invariant-loop-place : goal.invariant-loop-place
invariant-loop-place l = l.tracks ≡ tracks_named (take l.place l.names) (map rc_value l.systems)
