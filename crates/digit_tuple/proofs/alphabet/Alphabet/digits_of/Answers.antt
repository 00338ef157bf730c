use Rattle.std.proofs.Common.{◌≡◌, ◌<◌, length, get_or, ap, ◌∙◌, subst, arith}
use Rattle.digit_tuple.proofs.LetterLemmas.{take_apart}
use Rattle.digit_tuple.proofs.alphabet.Alphabet.digits_of.Goals as goal

pub loop-track-preserved : goal.loop-track-preserved
loop-track-preserved c =
    let same : c.deref-size-items.result.now ≡ c.args.self.now = c.deref-size-items.ensures.value ∙ c.self.view_is in
    let within : c.loop-track.track < length c.args.self.now = subst (λ xs. c.loop-track.track < length xs) same c.loop-track-test.true in
    let room : length c.loop-track.out ≡ length c.args.self.now = omega (arith, c.loop-track.auto.out, c.requires.room) in
    let step = take_apart c.args.self.now c.loop-track.out c.loop-track.track (get_or c.deref-size-items.result.now c.loop-track.track 0) c.loop-track.weight c.loop-track.rest c.args.letter within room (ap (λ xs. get_or xs c.loop-track.track 0) same) c.loop-track.invariant.weight c.loop-track.invariant.below c.loop-track.invariant.digits c.loop-track.invariant.code in
    record { weight = step.weight_is; below = step.below; digits = step.digits; code = step.code }
