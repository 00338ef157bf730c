use Rattle.std.proofs.Common.{map, take}
use Rattle.std.specs.List.{AllZip}
use Rattle.std.specs.Rc.{rc_value}
use Rattle.command_parts.proofs.TableReads.{IsSystemUnder}
use Rattle.command_parts.proofs.table_reading.tracks_under.Given as goal

-- the systems under the names before it
abbrev pub invariant-loop-name : goal.invariant-loop-name
invariant-loop-name l = AllZip (IsSystemUnder l.systems) (take l.name-index l.name-items) (map rc_value l.tracks.items)
