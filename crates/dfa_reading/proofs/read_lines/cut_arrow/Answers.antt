use Rattle.std.proofs.Common.{◌≡◌, ◌+◌, get_or, take, drop, arith}
use Rattle.std.proofs.lemmas.List.{length-drop}
use Rattle.dfa_reading.proofs.ReadLines.{arrow_later, arrow_nowhere}
use Rattle.dfa_reading.proofs.read_lines.cut_arrow.Goals as goal
use Rattle.dfa_reading.proofs.read_lines.cut_arrow.Goals.{else-line-index-eq45-via-then-line-index-eq45+else-line-index-eq62, else-line-index-eq45-via-else-line-index-eq45}

pub returns : goal.returns
returns c = arrow_nowhere c.args.line.now (take c.loop-index.index c.args.line.now) (drop c.loop-index.index c.args.line.now) (omega (arith, length-drop c.loop-index.index c.args.line.now)) c.loop-index.invariant.found

pub loop-index-preserved : goal.loop-index-preserved
loop-index-preserved c =
    let line = c.args.line.now in
    let i = c.loop-index.index in
    let other : get_or line i 0 ≡ 45 → get_or line (i + 1) 0 ≡ 62 → ⊥ = λ one two. elim c.else-line-index-eq45.branch [
      | else-line-index-eq45-via-then-line-index-eq45+else-line-index-eq62 w ↦ w.if-line-index-eq62.false two
      | else-line-index-eq45-via-else-line-index-eq45 w ↦ w.if-line-index-eq45.false one
    ] in
    record { within = omega (arith, c.loop-index-test.true); found = arrow_later line i (omega (arith, c.loop-index-test.true)) other c.loop-index.invariant.found }
