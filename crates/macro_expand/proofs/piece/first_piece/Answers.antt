use Rattle.std.proofs.Common.{refl, sym, arith}
use Rattle.macro_expand.proofs.PieceSteps.{first_plain, first_call, first_stray}
use Rattle.macro_expand.proofs.piece.first_piece.Goals as goal

pub returns-then-plain-gt0 : goal.returns-then-plain-gt0
returns-then-plain-gt0 c = first_plain c.args.at c.args.bytes.now c.len_before-plain.result _ c.len_before-plain.ensures.len c.len_before-plain.ensures.within c.if-plain-gt0.true refl

pub returns-in-Some : goal.returns-in-Some
returns-in-Some c = first_call c.args.at c.args.bytes.now c.after.result.now c.in-Some.call c.after.ensures (omega arith) c.requires (sym c.in-Some.ensures.call) c.in-Some.ensures.within c.in-Some.ensures.named

pub returns-in-None : goal.returns-in-None
returns-in-None c = first_stray c.args.at c.args.bytes.now c.after.result.now c.after.ensures (omega arith) c.requires (sym c.in-None.ensures.call)
