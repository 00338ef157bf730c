use Rattle.std.proofs.Common.{refl, arith}
use Rattle.macro_expand.proofs.SegmentSteps.{first_plain, first_sign, first_place}
use Rattle.macro_expand.proofs.segment.first_segment.Goals as goal

pub returns-then-plain-gt0 : goal.returns-then-plain-gt0
returns-then-plain-gt0 c = first_plain c.args.bytes.now c.len_before-plain.result _ c.len_before-plain.ensures.len c.len_before-plain.ensures.within c.if-plain-gt0.true refl

pub returns-then-digits-eq0 : goal.returns-then-digits-eq0
returns-then-digits-eq0 c =
    first_sign c.args.bytes.now c.after-ahead.result.now c.prefix_len-digits.result _ c.after-ahead.ensures (omega arith) c.requires c.prefix_len-digits.ensures.len c.if-digits-eq0.true refl

pub returns : goal.returns
returns c =
    first_place c.args.bytes.now c.after-ahead.result.now c.prefix_len-digits.result _ _ c.after-ahead.ensures (omega arith) c.requires c.prefix_len-digits.ensures.len c.prefix_len-digits.ensures.within (omega arith) c.number_of.ensures refl
