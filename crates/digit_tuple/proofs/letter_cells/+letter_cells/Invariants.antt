use Rattle.std.proofs.Common.{length, drop, ◌-◌, ◌+◌, ◌≡◌}
use Rattle.digit_tuple.specs.CellCounts.{cells_of}
use Rattle.digit_tuple.proofs.LetterCellLemmas.{by_letters}
use Rattle.digit_tuple.proofs.letter_cells.+letter_cells.Given as goal

abbrev pub decreases-letter_cells : goal.decreases-letter_cells
decreases-letter_cells l = length l.sizes.now

abbrev pub invariant-loop-start : goal.invariant-loop-start
invariant-loop-start l = l.cells + cells_of l.sizes (by_letters l.base (drop l.start l.letters)) ≡ cells_of l.sizes (by_letters l.base l.letters)

abbrev pub decreases-loop-start : goal.decreases-loop-start
decreases-loop-start l = length l.letters - l.start
