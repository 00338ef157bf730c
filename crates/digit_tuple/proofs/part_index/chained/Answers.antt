use Rattle.std.proofs.Common.{◌≡◌, ◌+◌, ◌-◌, ◌<◌, length, get_or, set, sym, subst, arith}
use Rattle.std.proofs.lemmas.List.{get_or_read}
use Rattle.digit_tuple.specs.PartChains.{AreChains}
use Rattle.digit_tuple.proofs.PartIndexLemmas.{AreChains-more}
use Rattle.digit_tuple.proofs.part_index.chained.Goals as goal

pub loop-letter-preserved : goal.loop-letter-preserved
loop-letter-preserved c =
    let parts = c.args.parts.now in
    let first = c.loop-letter.first.items in
    let next = c.loop-letter.next.items in
    let letter = c.loop-letter.letter - 1 in
    let inside : letter < length parts = omega (arith, c.loop-letter-test.true, c.loop-letter.auto.letter) in
    let small : get_or parts letter 0 < c.args.count = c.requires.below letter 0 inside in
    let head = get_or_read first (get_or parts letter 0) c.index.result.now (omega (arith, small, c.loop-letter.invariant.count_is)) c.index.ensures 0 in
    let before : c.loop-letter.letter ≡ letter + 1 = omega (arith, c.loop-letter-test.true) in
    subst (λ head. AreChains parts c.args.count (set first (get_or parts letter 0) letter) (set next letter head) letter) (sym head)
    (AreChains-more parts c.args.count first next letter inside small (subst (AreChains parts c.args.count first next) before c.loop-letter.invariant))
