-- The letters so far.
use Rattle.std.proofs.Common.{take}
use Rattle.std.specs.Prelude.{All}
use Rattle.regex_build.specs.Patterns.{IsOver}
use Rattle.regex_build.proofs.postfix.have_members.Given as goal

abbrev pub invariant-loop-symbol : goal.invariant-loop-symbol
invariant-loop-symbol l = All (IsOver l.sets) (take l.symbol-index l.symbols)
