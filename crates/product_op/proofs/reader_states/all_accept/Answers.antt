use Rattle.std.proofs.Common.{◌+◌, ◌&&◌, drop, sym, ap, ◌∙◌, arith}
use Rattle.product_op.specs.Readings.{readings_in, flags_at, all_true}
use Rattle.product_op.proofs.ReaderLemmas.{length-readings, all_true_none, all_true_step}
use Rattle.product_op.proofs.reader_states.all_accept.Goals as goal

pub returns-then-not-accepts : goal.returns-then-not-accepts
returns-then-not-accepts c =
    let place = c.loop-place.place in
    let rest = all_true (drop (place + 1) (flags_at (readings_in c.args.readers.now) c.args.key.now)) in
    sym (c.loop-place.invariant
    ∙ all_true_step c.args.readers.now c.args.key.now place c.index-readers-place.result c.accepts.result c.loop-place-test.true c.index-readers-place.is c.accepts.ensures
    ∙ ap (λ b. b && rest) c.if-not-accepts.true)

pub loop-place-preserved : goal.loop-place-preserved
loop-place-preserved c =
    let place = c.loop-place.place in
    let rest = all_true (drop (place + 1) (flags_at (readings_in c.args.readers.now) c.args.key.now)) in
    c.loop-place.invariant
    ∙ all_true_step c.args.readers.now c.args.key.now place c.index-readers-place.result c.accepts.result c.loop-place-test.true c.index-readers-place.is c.accepts.ensures
    ∙ ap (λ b. b && rest) c.if-not-accepts.false

pub returns : goal.returns
returns c =
    sym (c.loop-place.invariant ∙ all_true_none (readings_in c.args.readers.now) c.args.key.now c.loop-place.place (omega (arith, length-readings c.args.readers.now, c.loop-place-test.false)))
