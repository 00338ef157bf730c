use Rattle.std.proofs.Common.{◌≡◌, ◌++◌, take}
use Rattle.word_output.specs.PastZeros.{transitions_from}
use Rattle.word_output.proofs.msd_letters.push_all.Given as goal

abbrev pub invariant-loop-transition : goal.invariant-loop-transition
invariant-loop-transition l = l.out ≡ l.initial.out ++ transitions_from (take l.transition-index l.row)
