use Rattle.std.proofs.Common.{◌≡◌, ◌/◌, ◌<◌, length, drop, get_or, ap, sym, ◌∙◌, subst, arith}
use Rattle.digit_tuple.specs.Letters.{product}
use Rattle.track_parts.proofs.RunLemmas.{positive_size, weight-more}
use Rattle.track_parts.proofs.run_list.weight.Goals as goal

pub nonzero_div-weight : goal.nonzero_div-weight
nonzero_div-weight c =
    let sizes = c.args.alphabet.now in
    let track = c.loop-track.track in
    let inside : track < length sizes = omega (arith, c.loop-track-test.true, c.requires.place, c.loop-track.auto.track-end) in
    subst (λ n. 0 < n) (sym c.size-weight.ensures) (positive_size sizes track inside c.requires.some)

pub loop-track-preserved : goal.loop-track-preserved
loop-track-preserved c =
    let sizes = c.args.alphabet.now in
    let track = c.loop-track.track in
    let inside : track < length sizes = omega (arith, c.loop-track-test.true, c.requires.place, c.loop-track.auto.track-end) in
    ap (λ n. n / c.size-weight.result) c.loop-track.invariant ∙ ap (λ n. product (drop track sizes) / n) c.size-weight.ensures ∙ weight-more sizes track inside c.requires.some
