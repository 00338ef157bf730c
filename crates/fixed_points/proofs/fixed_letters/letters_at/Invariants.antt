use Rattle.std.proofs.Common.{◌≡◌, take}
use Rattle.fixed_points.specs.LetterGraph.{letters_at}
use Rattle.fixed_points.proofs.fixed_letters.letters_at.Given as goal

abbrev pub invariant-loop-number : goal.invariant-loop-number
invariant-loop-number l = l.letters.items ≡ letters_at (take l.number l.keys)
