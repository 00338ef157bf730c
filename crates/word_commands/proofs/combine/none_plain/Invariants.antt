use Rattle.std.proofs.Common.{take}
use Rattle.word_commands.proofs.ListedChecks.{AreNotPlain}
use Rattle.word_commands.proofs.combine.none_plain.Given as goal

-- those before it are not over sets
abbrev pub invariant-loop-valued : goal.invariant-loop-valued
invariant-loop-valued l = AreNotPlain l.headers (take l.valued-index l.automata)
