use Rattle.std.proofs.Common.{◌≡◌, ◌++◌, filter, take}
use Rattle.word_output.specs.PastZeros.{transitions_from, is_by_other}
use Rattle.word_output.proofs.msd_letters.push_others.Given as goal

abbrev pub invariant-loop-transition : goal.invariant-loop-transition
invariant-loop-transition l = l.out ≡ l.initial.out ++ transitions_from (filter is_by_other (take l.transition-index l.row))
