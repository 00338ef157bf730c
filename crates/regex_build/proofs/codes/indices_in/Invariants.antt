-- The indices so far.
use Rattle.std.proofs.Common.{take}
use Rattle.regex_build.specs.Codes.{AreIndices}
use Rattle.regex_build.proofs.codes.indices_in.Given as goal

abbrev pub invariant-loop-track : goal.invariant-loop-track
invariant-loop-track l = AreIndices (take l.track l.sets) (take l.track l.members) l.indices.items
