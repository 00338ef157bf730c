use Rattle.std.proofs.Common.{◌≡◌, map, take}
use Rattle.plan_relations.specs.MadeOf.{name_of}
use Rattle.plan_relations.proofs.track_names.track_names.Given as goal

-- the tracks so far are named
abbrev pub invariant-loop-track : goal.invariant-loop-track
invariant-loop-track l = l.names.items ≡ map name_of (take l.track-index l.tracks)
