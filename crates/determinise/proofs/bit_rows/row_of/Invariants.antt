use Rattle.std.proofs.Common.{◌≡◌, map, take}
use Rattle.determinise.specs.BitRows.{word_of}
use Rattle.determinise.proofs.bit_rows.row_of.Given as goal

abbrev pub invariant-loop-transition : goal.invariant-loop-transition
invariant-loop-transition l = l.row.items ≡ map (word_of l.width) (take l.transition-index l.transitions)
