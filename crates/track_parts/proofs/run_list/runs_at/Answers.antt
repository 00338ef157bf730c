use Rattle.std.proofs.Common.{◌≡◌, ◌+◌, ◌*◌, ◌/◌, ◌%◌, ◌<◌, length, drop, get_or, ap, sym, ◌∙◌, subst, arith}
use Rattle.digit_tuple.specs.Letters.{product}
use Rattle.digit_tuple.specs.Parts.{picked}
use Rattle.track_parts.specs.Runs.{run_part}
use Rattle.track_parts.proofs.RunLemmas.{factor-more, part_from, part_from-more, positive_size, positive_weight}
use Rattle.track_parts.proofs.run_list.runs_at.Goals as goal

pub nonzero_div-factor : goal.nonzero_div-factor
nonzero_div-factor c =
    let sizes = c.args.alphabet.now in
    let place = get_or c.args.places.now c.loop-place.place-index 0 in
    let within : place < length sizes = c.requires.places c.loop-place.place-index 0 c.loop-place-test.true in
    let some : 0 < product sizes = omega (arith, c.if-letters-eq0.false, c.letters.ensures.value) in
    subst (λ n. 0 < n) (sym c.size-size.ensures) (positive_size sizes place within some)

pub add_run-requires-clause-positive : goal.add_run-requires-clause-positive
add_run-requires-clause-positive c =
    let sizes = c.args.alphabet.now in
    let place = get_or c.args.places.now c.loop-place.place-index 0 in
    let within : place < length sizes = c.requires.places c.loop-place.place-index 0 c.loop-place-test.true in
    let some : 0 < product sizes = omega (arith, c.if-letters-eq0.false, c.letters.ensures.value) in (
      subst (λ n. 0 < n) (sym c.weight-divisor.ensures) (positive_weight sizes (place + 1) some),
      subst (λ n. 0 < n) (sym c.size-size.ensures) (positive_size sizes place within some),
    )

pub loop-place-preserved : goal.loop-place-preserved
loop-place-preserved c =
    let sizes = c.args.alphabet.now in
    let places = c.args.places.now in
    let i = c.loop-place.place-index in
    let place = get_or places i 0 in
    let within : place < length sizes = c.requires.places i 0 c.loop-place-test.true in
    let some : 0 < product sizes = omega (arith, c.if-letters-eq0.false, c.letters.ensures.value) in
    let weight = product (drop (place + 1) sizes) in
    let size = get_or sizes place 0 in
    let rest = product (picked (drop (i + 1) places) sizes) in
    let factor : c.loop-place.factor / c.size-size.result ≡ rest =
    ap (λ n. n / c.size-size.result) c.loop-place.invariant.factor ∙ ap (λ n. product (picked (drop i places) sizes) / n) c.size-size.ensures ∙ factor-more sizes places i c.loop-place-test.true within some in
    record {
      whole = λ letter below.
          let run : letter / c.weight-divisor.result % c.size-size.result * (c.loop-place.factor / c.size-size.result) ≡ letter / weight % size * rest =
          ap (λ n. letter / n % c.size-size.result * (c.loop-place.factor / c.size-size.result)) c.weight-divisor.ensures
          ∙ ap (λ n. letter / weight % n * (c.loop-place.factor / c.size-size.result)) c.size-size.ensures
          ∙ ap (λ n. letter / weight % size * n) factor in
          omega (arith, c.in_ok-add_run.ensures.sum letter, run, part_from-more sizes places i letter c.loop-place-test.true below within, c.loop-place.invariant.whole letter below);
      factor = factor;
      positive = c.in_ok-add_run.ensures.positive;
    }
