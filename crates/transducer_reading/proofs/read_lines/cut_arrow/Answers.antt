use Rattle.std.proofs.Common.{take, drop, arith}
use Rattle.std.proofs.lemmas.List.{length-drop}
use Rattle.dfa_reading.proofs.ReadLines.{arrow_nowhere}
use Rattle.transducer_reading.proofs.read_lines.cut_arrow.Goals as goal

pub returns : goal.returns
returns c = arrow_nowhere c.args.line.now (take c.loop-index.index c.args.line.now) (drop c.loop-index.index c.args.line.now) (omega (arith, length-drop c.loop-index.index c.args.line.now)) c.loop-index.invariant.found
