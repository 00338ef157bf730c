use Rattle.std.proofs.Common.{◌≡◌, take}
use Rattle.definitions.specs.Tracks.{header_tracks}
use Rattle.command_parts.specs.TrackSystems.{named_in}
use Rattle.language_commands.proofs.track_systems.tracks.Given as goal

abbrev pub invariant-loop-system : goal.invariant-loop-system
invariant-loop-system l = l.tracks ≡ header_tracks (named_in (take l.system-index l.systems.systems.items))
