use Rattle.std.proofs.Common.{◌≡◌, Some, IfOk, ap, ◌∙◌, refl, sym, subst, arith}
use Rattle.formula_parse.specs.Views.{term_view, factor_view, factors_view}
use Rattle.formula_parse.proofs.ViewSteps.{view_variable, view_numeral, view_product, view_sum, view_times, view_divided}
use Rattle.formula_parse.specs.Trees as trees
use Rattle.formula_truth.specs.Given.{assigned}
use Rattle.formula_truth.specs.Values.{value}
use Rattle.formula_truth.proofs.EvaluationLemmas.{value_at, product_end, product_more, factor_at, factor_answers, sum_end}
use Rattle.formula_truth.proofs.evaluation.+evaluation.Goals as goal

pub value_of-loop-factor-preserved : goal.value_of-loop-factor-preserved
value_of-loop-factor-preserved t c =
    product_more c.deref-factor-items.result.now c.loop-factor.factor-index c.factor-item.result (assigned c.args.given.now) c.loop-factor.product c.in_ok-product-in-Product.product
    (omega (arith, c.loop-factor-test.true)) c.factor-item.is c.loop-factor.invariant c.in_ok-product-in-Product.ensures

pub value_of-returns-in-Variable : goal.value_of-returns-in-Variable
value_of-returns-in-Variable t c = value_at c.args.term.now (trees.variable c.in-Variable.name) (assigned c.args.given.now) (Some c.number_of.result) (ap term_view c.in-Variable.is ∙ view_variable c.in-Variable.name) (ap Some c.number_of.ensures)

pub value_of-returns-in-Numeral : goal.value_of-returns-in-Numeral
value_of-returns-in-Numeral t c = value_at c.args.term.now (trees.numeral c.in-Numeral.number) (assigned c.args.given.now) (Some c.in-Numeral.number) (ap term_view c.in-Numeral.is ∙ view_numeral c.in-Numeral.number) refl

pub value_of-returns-after-loop-factor : goal.value_of-returns-after-loop-factor
value_of-returns-after-loop-factor t c =
    value_at c.args.term.now (trees.product (factors_view c.in-Product.factors.items)) (assigned c.args.given.now) c.loop-factor.product
    (ap term_view c.in-Product.is ∙ view_product c.in-Product.factors)
    (product_end c.in-Product.factors.items c.deref-factor-items.result.now c.loop-factor.factor-index (assigned c.args.given.now) c.loop-factor.product c.deref-factor-items.ensures.value c.loop-factor-test.false c.loop-factor.invariant)

pub value_of-returns-in_ok-value-in-Sum-2 : goal.value_of-returns-in_ok-value-in-Sum-2
value_of-returns-in_ok-value-in-Sum-2 t c =
    subst (λ (s : trees.Term). IfOk c.added-in-Sum.result (λ x. x ≡ value s (assigned c.args.given.now))) (sym (ap term_view c.in-Sum.is ∙ view_sum c.in-Sum.addends c.in-Sum.last))
    (sum_end c.in-Sum.addends.items c.deref-addend-items.result.now (term_view c.in-Sum.last.value) c.loop-addend.addend-index (assigned c.args.given.now) c.loop-addend.before c.in_ok-value-in-Sum-2.value c.added-in-Sum.result
    c.deref-addend-items.ensures.value c.loop-addend-test.false c.loop-addend.invariant
    (c.in_ok-value-in-Sum-2.ensures ∙ ap (λ d. value (term_view d) (assigned c.args.given.now)) c.deref.ensures)
    c.added-in-Sum.ensures)

pub with_factor-returns-in_ok-value-in-Times : goal.with_factor-returns-in_ok-value-in-Times
with_factor-returns-in_ok-value-in-Times t c =
    factor_answers c.args.factor.now c.in-Times.term c.in_ok-value-in-Times.value (assigned c.args.given.now) c.args.product c.multiplied.result
    (ap factor_view c.in-Times.is ∙ view_times c.in-Times.term) c.in_ok-value-in-Times.ensures c.multiplied.ensures

pub with_factor-returns-in-Divided : goal.with_factor-returns-in-Divided
with_factor-returns-in-Divided t c =
    factor_at c.args.factor.now (trees.divided c.in-Divided.divisor) (assigned c.args.given.now) c.args.product c.divided.result (ap factor_view c.in-Divided.is ∙ view_divided c.in-Divided.divisor) c.divided.ensures
