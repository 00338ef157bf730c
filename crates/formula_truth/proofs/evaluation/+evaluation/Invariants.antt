use Rattle.std.proofs.Common.{◌≡◌, ℕ, ◌+◌, ◌*◌, Option, take}
use Rattle.formula_parse.specs.Views.{factors_view, addends_view}
use Rattle.formula_truth.specs.Values.{product_value, sum_value}
use Rattle.formula_truth.specs.Given.{assigned, after_sum}
use Rattle.formula_truth.proofs.evaluation.+evaluation.Given as goal

abbrev pub invariant-value_of-loop-factor : goal.invariant-value_of-loop-factor
invariant-value_of-loop-factor l = product_value (factors_view (take l.factor-index l.factor-items)) (assigned l.given) ≡ l.product

abbrev pub invariant-value_of-loop-addend : goal.invariant-value_of-loop-addend
invariant-value_of-loop-addend l = (x : Option ℕ) → sum_value (addends_view (take l.addend-index l.addend-items)) (assigned l.given) x ≡ after_sum l.before x

abbrev pub decreases-value_of : goal.decreases-value_of
decreases-value_of l = 2 * l.levels

abbrev pub decreases-with_factor : goal.decreases-with_factor
decreases-with_factor l = 2 * l.levels + 1
