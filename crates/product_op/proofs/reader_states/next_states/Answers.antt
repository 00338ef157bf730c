use Rattle.std.proofs.Common.{◌≡◌, length, ap, sym, ◌∙◌, subst, arith}
use Rattle.residual_classes.specs.Classes.{next_of}
use Rattle.product_op.specs.Readings.{Reading, readings_in, part_read, state_at, no_reading}
use Rattle.product_op.proofs.ReaderLemmas.{LeadTo-all, LeadTo-more, length-readings, reading_at-reader}
use Rattle.product_op.proofs.reader_states.next_states.Goals as goal

pub next-requires : goal.next-requires
next-requires c =
    let readers = c.args.readers.now in
    let place = c.loop-place.place in
    let count = (c.requires.readers.1 place no_reading (omega (arith, length-readings readers, c.loop-place-test.true))).count in
    let long = subst (λ (r : Reading). length r.parts ≡ c.requires.readers.0) (reading_at-reader readers place c.index-readers-place.result c.loop-place-test.true c.index-readers-place.is) count in
    omega (arith, long, c.requires.readers.2)

pub loop-place-preserved : goal.loop-place-preserved
loop-place-preserved c =
    let readers = c.args.readers.now in
    let place = c.loop-place.place in
    let here = reading_at-reader readers place c.index-readers-place.result c.loop-place-test.true c.index-readers-place.is in
    LeadTo-more (readings_in readers) c.args.key.now c.args.letter c.loop-place.next place c.next.result
    (omega (arith, c.loop-place-test.true, c.loop-place.auto.next, c.requires.room))
    (c.next.ensures ∙ ap (λ (r : Reading). next_of r.automaton (state_at c.args.key.now place) (part_read r c.args.letter)) (sym here))
    c.loop-place.invariant

pub returns : goal.returns
returns c =
    let readers = c.args.readers.now in
    LeadTo-all (readings_in readers) c.args.key.now c.args.letter c.loop-place.next c.loop-place.place (omega (arith, c.loop-place.auto.next, c.requires.room, length-readings readers))
    (omega (arith, length-readings readers, c.loop-place-test.false)) c.loop-place.invariant
