-- The members so far.
use Rattle.std.proofs.Common.{take}
use Rattle.regex_build.specs.Patterns.{AreMembers}
use Rattle.regex_build.proofs.postfix.are_members.Given as goal

abbrev pub invariant-loop-track : goal.invariant-loop-track
invariant-loop-track l = AreMembers (take l.track l.sets) (take l.track l.members)
