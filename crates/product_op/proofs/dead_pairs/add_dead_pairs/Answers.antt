use Rattle.std.proofs.Common.{◌≡◌, List, ℕ, ◌++◌, ap, ◌∙◌, arith, ◌<◌, [], length, sym}
use Rattle.digit_tuple.specs.Explored.{key_at}
use Rattle.product_op.specs.Readings.{readings_in}
use Rattle.product_op.proofs.PairListLemmas.{AreTriedTo-more, HasWidth-tried}
use Rattle.product_op.proofs.PairReaders.{length-pair}
use Rattle.std.proofs.lemmas.List.{get_or_default}
use Rattle.product_op.proofs.dead_pairs.add_dead_pairs.Goals as goal

pub loop-place-init : goal.loop-place-init
loop-place-init c = record { live = c.requires.live; marked = c.in_ok-marks.ensures c.args.keys.now; few = c.requires.few; tried = λ i less. absurd (omega (arith, less)) }

pub loop-place-preserved : goal.loop-place-preserved
loop-place-preserved c =
    let g = c.args.graph.now in
    let rs = readings_in g.readers.now in
    let place = c.loop-place.place in
    let key : c.deref.result.now ≡ key_at c.loop-place.keys place = c.deref.ensures.value ∙ c.in_ok-extend_from_slice.ensures.items ∙ ap (λ (ks : List ℕ). ks ++ c.key.result.now) c.clear.ensures.items ∙ c.key.ensures in
    record {
      live = c.in_ok-add_dead_after.ensures.live;
      marked = c.in_ok-add_dead_after.ensures.marked;
      few = c.in_ok-add_dead_after.ensures.few;
      tried = AreTriedTo-more g.letters rs c.loop-place.keys c.add_dead_after.new.keys place c.deref.result.now (omega (arith, c.loop-place-test.true, c.len.ensures.len)) key
          c.in_ok-add_dead_after.ensures.begins c.in_ok-add_dead_after.ensures.after c.loop-place.invariant.tried;
    }

pub returns-clause-width : goal.returns-clause-width
returns-clause-width c =
    let g = c.args.graph.now in
    let rs = readings_in g.readers.now in
    let live = c.loop-place.invariant.live in
    HasWidth-tried g.letters rs c.loop-place.keys c.loop-place.place c.len.ensures.apart live.reached live.first (omega (arith, c.loop-place-test.false, c.len.ensures.len)) c.loop-place.invariant.tried

pub new-requires : goal.new-requires
new-requires c =
    let g = c.args.graph.now in
    length-pair g.letters g.op g.readers.now c.requires.pair

pub add_dead_after-requires-clause-pair : goal.add_dead_after-requires-clause-pair
add_dead_after-requires-clause-pair c = c.requires.pair

pub add_dead_after-requires-clause-tables : goal.add_dead_after-requires-clause-tables
add_dead_after-requires-clause-tables c = c.requires.tables

pub add_dead_after-requires-clause-marked : goal.add_dead_after-requires-clause-marked
add_dead_after-requires-clause-marked c = c.loop-place.invariant.marked

pub add_dead_after-requires-clause-live : goal.add_dead_after-requires-clause-live
add_dead_after-requires-clause-live c = c.loop-place.invariant.live

pub add_dead_after-requires-clause-few : goal.add_dead_after-requires-clause-few
add_dead_after-requires-clause-few c = c.loop-place.invariant.few

pub add_dead_after-requires-clause-key : goal.add_dead_after-requires-clause-key
add_dead_after-requires-clause-key c =
    let place = c.loop-place.place in
    let key : c.deref.result.now ≡ key_at c.loop-place.keys place = c.deref.ensures.value ∙ c.in_ok-extend_from_slice.ensures.items ∙ ap (λ (ks : List ℕ). ks ++ c.key.result.now) c.clear.ensures.items ∙ c.key.ensures in
    let within : place < length c.loop-place.keys = omega (arith, c.loop-place-test.true, c.len.ensures.len) in
    (place, within, get_or_default c.loop-place.keys place c.deref.result.now [] within ∙ sym key)

pub returns-clause-within : goal.returns-clause-within
returns-clause-within c = c.loop-place.invariant.few
