use Rattle.std.proofs.Common.{take}
use Rattle.word_commands.proofs.ListedChecks.{AreOver}
use Rattle.word_commands.proofs.combine.first_other.Given as goal

-- those before it have the systems
abbrev pub invariant-loop-other : goal.invariant-loop-other
invariant-loop-other l = AreOver l.headers l.tracks (take l.other-index l.automata)
