use Rattle.std.proofs.Common.{length, ap, arith}
use Rattle.std.proofs.lemmas.List.{length_push}
use Rattle.residual_classes.proofs.FirstPlaceLemmas.{first_places-more}
use Rattle.residual_classes.proofs.first_places.first_places.Goals as goal

pub loop-place-preserved : goal.loop-place-preserved
loop-place-preserved c =
    let places = c.loop-place.places.items in
    let first = c.in_ok-first_place.field-0 in
    record {
      width = omega (arith, ap length c.in_ok-push.ensures.items, length_push places first, c.loop-place.invariant.width);
      first = first_places-more c.args.numbers.now places c.push.new.self.items c.loop-place.place first c.loop-place.invariant.width c.in_ok-push.ensures.items c.loop-place.invariant.first c.in_ok-first_place.ensures.first;
      held = c.in_ok-first_place.ensures.held;
    }

pub first_place-requires-clause-small : goal.first_place-requires-clause-small
first_place-requires-clause-small c = omega (arith, c.if-numbers.false)

pub returns : goal.returns
returns c = record {
  width = omega (arith, c.loop-place.invariant.width, c.loop-place-test.false, c.loop-place.auto.place-end);
  first = λ q less. c.loop-place.invariant.first q (omega (arith, less, c.loop-place-test.false));
}
