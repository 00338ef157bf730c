use Rattle.std.proofs.Common.{◌≡◌, ap, ◌∙◌, arith}
use Rattle.reference.proofs.WordSteps.{longer, longer_more, longer_words}
use Rattle.reference.proofs.words.+all_words.Goals as goal

pub loop-letter-preserved : goal.loop-letter-preserved
loop-letter-preserved t c = cc (longer_more c.in_ok-shorter.shorter.items c.loop-letter.letter, c.in_ok-push_after.ensures)

pub returns : goal.returns
returns t c =
    let same : c.loop-letter.letter ≡ c.args.letters = omega arith in
    let all : c.loop-letter.words.items ≡ longer c.args.letters c.in_ok-shorter.shorter.items = c.loop-letter.invariant ∙ ap (λ n. longer n c.in_ok-shorter.shorter.items) same in
    rw all (longer_words c.args.letters c.args.length c.in_ok-shorter.shorter.items c.if-length-eq0.false c.in_ok-shorter.ensures)
