use Rattle.std.proofs.Common.{List, ◌+◌, drop, sym, ap, ◌∙◌}
use Rattle.transducer_reading.specs.declared.transducer.TransducerLine.{TransducerLine}
use Rattle.transducer_reading.specs.Reading.{placed_lines}
use Rattle.transducer_reading.proofs.ReadLemmas.{ahead, placed_more}
use Rattle.transducer_reading.proofs.draft.placed_lines.Goals as goal

pub loop-entry-preserved : goal.loop-entry-preserved
loop-entry-preserved c =
    let keys = c.args.numbers.now.keys in
    let lines = c.args.lines.now in
    let i = c.loop-entry.entry-index in
    ap (λ (ps : List TransducerLine). ahead ps (placed_lines keys (drop (i + 1) lines))) c.in_ok-push-in-Some.ensures.items
    ∙ placed_more keys lines i _ c.loop-entry.placed.items _ c.in-Some.line c.loop-entry-test.true (sym c.in-Some.ensures) c.loop-entry.invariant
