use Rattle.std.proofs.Common.{◌≡◌, true, false, sym, ap, ◌∙◌, arith}
use Rattle.digit_tuple.specs.Deterministic.{states_of}
use Rattle.product_op.specs.Readings.{Reading, readings_in}
use Rattle.product_op.proofs.ReaderLemmas.{length-readings, reading_at-reader}
use Rattle.product_op.proofs.SinkKeyLemmas.{are_sinks-all, are_sinks-not}
use Rattle.product_op.proofs.reader_states.are_sinks.Goals as goal

pub returns-then-not-is_sink : goal.returns-then-not-is_sink
returns-then-not-is_sink c =
    let readers = c.args.readers.now in
    let place = c.loop-place.place in
    let here = reading_at-reader readers place c.index-readers-place.result c.loop-place-test.true c.index-readers-place.is in
    sym (are_sinks-not (readings_in readers) c.args.key.now place (omega (arith, length-readings readers, c.loop-place-test.true))
    (λ same. let no : false ≡ true = sym c.if-not-is_sink.true ∙ c.is_sink.ensures.1 (same ∙ ap (λ (r : Reading). states_of r.automaton) here) in cc))

pub returns : goal.returns
returns c =
    let readers = c.args.readers.now in
    sym (are_sinks-all (readings_in readers) c.args.key.now (λ i less. c.loop-place.invariant i (omega (arith, less, length-readings readers, c.loop-place-test.false))))
