use Rattle.std.proofs.Common.{◌∙◌, arith}
use Rattle.macro_expand.proofs.NumberSteps.{value_digit}
use Rattle.macro_expand.proofs.segment.number_of.Goals as goal

pub loop-digit-preserved : goal.loop-digit-preserved
loop-digit-preserved c = (
  value_digit c.loop-digit.number c.saturating_add-number.result c.loop-digit.digit-index c.args.digits.now (omega arith) (omega arith) ∙ c.loop-digit.invariant.0,
  omega arith,
)
