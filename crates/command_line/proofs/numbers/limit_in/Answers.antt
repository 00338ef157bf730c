use Rattle.std.proofs.Common.{◌≡◌, ◌∙◌, arith, sym}
use Rattle.std.proofs.lemmas.Fmt.{decimal_injective}
use Rattle.command_line.proofs.numbers.limit_in.Goals as goal
use Rattle.command_line.proofs.numbers.limit_in.Goals.{else-number-ge-LEAST-via-then-number-ge-LEAST+else-number-le-GREATEST, else-number-ge-LEAST-via-else-number-ge-LEAST}

pub returns-else-number-ge-LEAST : goal.returns-else-number-ge-LEAST
returns-else-number-ge-LEAST c = λ limit is.
    let same : c.in_ok-number.number ≡ limit = decimal_injective c.in_ok-number.number limit c.in_ok-number.ensures.1 (omega (arith, is)) (sym c.in_ok-number.ensures.0 ∙ is.0) in
    elim c.else-number-ge-LEAST.branch [
      | else-number-ge-LEAST-via-then-number-ge-LEAST+else-number-le-GREATEST w ↦ omega (arith, w.if-number-le-GREATEST, is, same)
      | else-number-ge-LEAST-via-else-number-ge-LEAST w ↦ omega (arith, w.if-number-ge-LEAST, is, same)
    ]
