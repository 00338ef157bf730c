use Rattle.std.specs.Cmp.Rules.{signed_items}
use Rattle.reference.proofs.Cuts.{same_letter}
use Rattle.reference.proofs.matching.is_letter.Goals as goal

pub returns-in-len1 : goal.returns-in-len1
returns-in-len1 c = same_letter c.args.word.now c.tuple-item.result c.args.letter.now c.eq.result c.in-len1.len_at_least c.in-len1.len_below c.tuple-item.is
    (rw c.eq.ensures (rw (c.members.ensures, c.members-in-len1.ensures) (signed_items c.tuple-item.result c.args.letter.now)))
