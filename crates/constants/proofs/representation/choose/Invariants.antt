use Rattle.std.proofs.Common.{◌≡◌, ℕ, ◌+◌, List}
use Rattle.digit_tuple.specs.Deterministic.{letters_of}
use Rattle.digit_tuple.specs.declared.direction.Direction.{Direction}
use Rattle.constants.specs.Continuations.{read, continuations_below}
use Rattle.constants.specs.WordCounts.{AreCounts}
use Rattle.constants.specs.Prefixes.{IsPrefix}
use Rattle.constants.proofs.representation.choose.Given as goal

abbrev pub invariant-loop-digit : goal.invariant-loop-digit
invariant-loop-digit l = (direction : Direction) (w : List ℕ) (n : ℕ) → IsPrefix direction l.language w l.prefix → AreCounts direction l.language n l.row
    → continuations_below (letters_of l.language) (read direction l.language) w n l.digit + l.rest ≡ l.number
