use Rattle.std.proofs.Common.{List, ℤ, subst}
use Rattle.digit_tuple.specs.Tuples.{IsLetterOf}
use Rattle.listings.proofs.TrackLemmas.{codes_more}
use Rattle.listings.proofs.tracks.found_word.Goals as goal

pub loop-letter-preserved : goal.loop-letter-preserved
loop-letter-preserved c =
    let is = subst (λ (digits : List ℤ). IsLetterOf c.args.sets.now digits c.in-Some.number) c.digits.ensures (rw c.in-Some.is at c.in_ok-number.ensures) in
    codes_more c.args.sets.now c.args.letters.now c.loop-letter.word.items c.push.new.self.items c.loop-letter.letter-index c.letter-item.result c.in-Some.number
    c.loop-letter-test.true c.letter-item.is c.loop-letter.invariant is c.in_ok-push-in-Some.ensures.items
