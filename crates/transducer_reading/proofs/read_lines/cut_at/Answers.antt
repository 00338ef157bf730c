use Rattle.std.proofs.Common.{◌+◌, ap, ◌∙◌, sym, List, ℕ, ◌∷◌, take, eqb}
use Rattle.std.specs.List.{slice_split}
use Rattle.std.proofs.lemmas.List.{take_rest}
use Rattle.dfa_reading.proofs.ReadLines.{split_first, split_nowhere}
use Rattle.transducer_reading.proofs.read_lines.cut_at.Goals as goal

pub returns-then-byte-mark-clause-pieces : goal.returns-then-byte-mark-clause-pieces
returns-then-byte-mark-clause-pieces c =
    split_first c.args.mark c.loop-index.index c.args.bytes.now c.loop-index-test.true c.loop-index.invariant c.if-byte-mark.true
    ∙ ap (λ (rest : List ℕ). take c.loop-index.index c.args.bytes.now ∷ slice_split (λ b. eqb b c.args.mark) rest) (sym (take_rest c.args.bytes.now (c.loop-index.index + 1)))

pub returns-clause-pieces : goal.returns-clause-pieces
returns-clause-pieces c = split_nowhere c.args.mark c.loop-index.index c.args.bytes.now c.loop-index-test.false c.loop-index.invariant
