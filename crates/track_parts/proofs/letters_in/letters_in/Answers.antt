use Rattle.std.proofs.Common.{◌≡◌, ◌+◌, ◌-◌, ◌*◌, ◌<◌, ◌≤◌, List, ℕ, length, drop, get_or, ap, sym, ◌∙◌, subst, arith}
use Rattle.std.specs.List.{All}
use Rattle.std.proofs.lemmas.Nat.{mul-le}
use Rattle.digit_tuple.specs.Letters.{product}
use Rattle.track_parts.specs.Spans.{letters_in}
use Rattle.track_parts.proofs.LettersInLemmas.{AreSpans-drop, IsSpan-at, length-spans, letters_in-All, size-le, size-weight-le}
use Rattle.track_parts.proofs.letters_in.letters_in.Goals as goal

pub bounds-spans-track : goal.bounds-spans-track
bounds-spans-track c = omega (arith, c.loop-track-test.true, c.loop-track.auto.track, c.tracks-track.ensures.value, length-spans c.args.alphabet.now c.args.spans.now c.requires.spans)

pub add_digits-requires-clause-letters : goal.add_digits-requires-clause-letters
add_digits-requires-clause-letters c =
    let sizes = drop c.loop-track.track c.args.alphabet.now in
    let spans = drop c.loop-track.track c.args.spans.now in
    let all : c.deref.result.now ≡ letters_in sizes spans = c.deref.ensures.value ∙ c.loop-track.invariant.letters in
    subst (λ (ls : List ℕ). All (λ letter. letter < c.loop-track.weight) ls) (sym all)
    (subst (λ n. All (λ letter. letter < n) (letters_in sizes spans)) (sym c.loop-track.invariant.weight) (letters_in-All sizes spans (AreSpans-drop c.loop-track.track c.args.alphabet.now c.args.spans.now c.requires.spans)))

pub add_digits-requires-clause-digits : goal.add_digits-requires-clause-digits
add_digits-requires-clause-digits c =
    let sizes = c.args.alphabet.now in
    let at = c.loop-track.track - 1 in
    let inside : at < length sizes = omega (arith, c.loop-track-test.true, c.loop-track.auto.track, c.tracks-track.ensures.value) in
    let span = IsSpan-at sizes c.args.spans.now at (record { from = 0; count = 0 }) c.requires.spans inside in
    omega (arith, span, size-le sizes at inside c.requires.some, c.tracks-track.ensures.alphabet.letters)

pub add_digits-requires-clause-small : goal.add_digits-requires-clause-small
add_digits-requires-clause-small c =
    let sizes = c.args.alphabet.now in
    let at = c.loop-track.track - 1 in
    let inside : at < length sizes = omega (arith, c.loop-track-test.true, c.loop-track.auto.track, c.tracks-track.ensures.value) in
    let next : c.loop-track.track ≡ at + 1 = omega (arith, c.loop-track-test.true) in
    let span = get_or c.args.spans.now at (record { from = 0; count = 0 }) in
    let below = IsSpan-at sizes c.args.spans.now at (record { from = 0; count = 0 }) c.requires.spans inside in
    let weight : c.loop-track.weight ≡ product (drop (at + 1) sizes) = c.loop-track.invariant.weight ∙ ap (λ n. product (drop n sizes)) next in
    let less : (span.from + span.count) * c.loop-track.weight ≤ get_or sizes at 0 * product (drop (at + 1) sizes) =
    mul-le (span.from + span.count) c.loop-track.weight (get_or sizes at 0) (product (drop (at + 1) sizes)) below (omega (arith, weight)) in
    omega (arith, less, size-weight-le sizes at inside c.requires.some, c.tracks-track.ensures.alphabet.letters)

pub overflow_mul-weight : goal.overflow_mul-weight
overflow_mul-weight c =
    let sizes = c.args.alphabet.now in
    let at = c.loop-track.track - 1 in
    let inside : at < length sizes = omega (arith, c.loop-track-test.true, c.loop-track.auto.track, c.tracks-track.ensures.value) in
    let next : c.loop-track.track ≡ at + 1 = omega (arith, c.loop-track-test.true) in
    let weight : c.loop-track.weight ≡ product (drop (at + 1) sizes) = c.loop-track.invariant.weight ∙ ap (λ n. product (drop n sizes)) next in
    let same : c.loop-track.weight * c.size-weight.result ≡ product (drop (at + 1) sizes) * get_or sizes at 0 = ap (λ n. n * c.size-weight.result) weight ∙ ap (λ n. product (drop (at + 1) sizes) * n) c.size-weight.ensures in
    omega (arith, same, size-weight-le sizes at inside c.requires.some, c.tracks-track.ensures.alphabet.letters)
