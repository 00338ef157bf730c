use Rattle.std.proofs.Common.{◌≡◌, ◌<◌, ◌≤◌, length, get_or, ap, ◌∙◌, subst, arith}
use Rattle.digit_tuple.specs.Letters.{product}
use Rattle.digit_tuple.proofs.LetterLemmas.{put_together}
use Rattle.digit_tuple.proofs.alphabet.Alphabet.letter_of.Goals as goal

pub overflow_mul-letter : goal.overflow_mul-letter
overflow_mul-letter c =
    let same : c.deref-size-items.result.now ≡ c.args.self.now = c.deref-size-items.ensures.value ∙ c.self.view_is in
    let bound : product c.args.self.now ≤ 65536 = subst (λ xs. product xs ≤ 65536) c.self.view_is c.self.invariant.1.letters in
    let within : c.loop-track.track < length c.args.self.now = subst (λ xs. c.loop-track.track < length xs) same c.loop-track-test.true in
    let step = put_together c.args.self.now c.args.digits.now c.loop-track.track (get_or c.deref-size-items.result.now c.loop-track.track 0) c.loop-track.letter bound c.requires within (ap (λ xs. get_or xs c.loop-track.track 0) same) c.loop-track.invariant.below c.loop-track.invariant.code in
    omega (arith, step.small)

pub bounds-digits-track : goal.bounds-digits-track
bounds-digits-track c =
    let same : c.deref-size-items.result.now ≡ c.args.self.now = c.deref-size-items.ensures.value ∙ c.self.view_is in
    let bound : product c.args.self.now ≤ 65536 = subst (λ xs. product xs ≤ 65536) c.self.view_is c.self.invariant.1.letters in
    let within : c.loop-track.track < length c.args.self.now = subst (λ xs. c.loop-track.track < length xs) same c.loop-track-test.true in
    let step = put_together c.args.self.now c.args.digits.now c.loop-track.track (get_or c.deref-size-items.result.now c.loop-track.track 0) c.loop-track.letter bound c.requires within (ap (λ xs. get_or xs c.loop-track.track 0) same) c.loop-track.invariant.below c.loop-track.invariant.code in
    step.room

pub overflow_add-letter : goal.overflow_add-letter
overflow_add-letter c =
    let same : c.deref-size-items.result.now ≡ c.args.self.now = c.deref-size-items.ensures.value ∙ c.self.view_is in
    let bound : product c.args.self.now ≤ 65536 = subst (λ xs. product xs ≤ 65536) c.self.view_is c.self.invariant.1.letters in
    let within : c.loop-track.track < length c.args.self.now = subst (λ xs. c.loop-track.track < length xs) same c.loop-track-test.true in
    let step = put_together c.args.self.now c.args.digits.now c.loop-track.track (get_or c.deref-size-items.result.now c.loop-track.track 0) c.loop-track.letter bound c.requires within (ap (λ xs. get_or xs c.loop-track.track 0) same) c.loop-track.invariant.below c.loop-track.invariant.code in
    omega (arith, step.small)

pub loop-track-preserved : goal.loop-track-preserved
loop-track-preserved c =
    let same : c.deref-size-items.result.now ≡ c.args.self.now = c.deref-size-items.ensures.value ∙ c.self.view_is in
    let bound : product c.args.self.now ≤ 65536 = subst (λ xs. product xs ≤ 65536) c.self.view_is c.self.invariant.1.letters in
    let within : c.loop-track.track < length c.args.self.now = subst (λ xs. c.loop-track.track < length xs) same c.loop-track-test.true in
    let step = put_together c.args.self.now c.args.digits.now c.loop-track.track (get_or c.deref-size-items.result.now c.loop-track.track 0) c.loop-track.letter bound c.requires within (ap (λ xs. get_or xs c.loop-track.track 0) same) c.loop-track.invariant.below c.loop-track.invariant.code in
    record { below = step.below; code = step.code }
