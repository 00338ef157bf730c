-- Each step has one outcome.
use Rattle.digit_tuple.specs.Deterministic.{Automaton}
use Rattle.product_op.specs.declared.op.Op.{Op}
use Rattle.automaton_steps.specs.Laws.{HasOneOutcome}
use Rattle.lang_ops.specs.ConcatSteps.{concat_step}
use Rattle.lang_ops.specs.ProductSteps.{product_step}
use Rattle.lang_ops.specs.StarSteps.{star_step}

abbrev pub ConcatHasOneOutcome : Type 0
ConcatHasOneOutcome = (a b : Automaton) → HasOneOutcome (concat_step a b)

abbrev pub StarHasOneOutcome : Type 0
StarHasOneOutcome = (a : Automaton) → HasOneOutcome (star_step a)

abbrev pub ProductHasOneOutcome : Type 0
ProductHasOneOutcome = (op : Op) (a b : Automaton) → HasOneOutcome (product_step op a b)
