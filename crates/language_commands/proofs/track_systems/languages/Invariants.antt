use Rattle.std.proofs.Common.{map, take}
use Rattle.std.specs.Rc.{rc_value}
use Rattle.reg_steps.specs.Relations.{AreSystemLanguages}
use Rattle.command_parts.specs.TrackSystems.{named_in}
use Rattle.definitions.specs.Tracks.{systems_of}
use Rattle.language_commands.proofs.track_systems.languages.Given as goal

abbrev pub invariant-loop-system : goal.invariant-loop-system
invariant-loop-system l = AreSystemLanguages l.systems.direction (systems_of (named_in (take l.system-index l.systems.systems.items))) (map rc_value l.languages.items)
