use Rattle.std.proofs.Common.{arith, Some, get_or, refl, sym, ◌∙◌, ap}
use Rattle.formula_parse.specs.Trees as trees
use Rattle.formula_parse.specs.Views.{term_view, factor_view, factors_view, addends_view}
use Rattle.formula_parse.proofs.ViewSteps.{view_variable, view_numeral, view_product, view_sum, view_divided}
use Rattle.term_plans.specs.TermPlanning.{other_of, term_of}
use Rattle.formula_plan.proofs.NamesAdded.{divisor_none_added, seen_added, addend_added, term_none_added, other_none, product_added, sum_added}
use Rattle.formula_plan.proofs.names.+names.Goals as goal

pub add_factor-returns-in-Divided : goal.add_factor-returns-in-Divided
add_factor-returns-in-Divided t c = divisor_none_added (factor_view c.args.factor.now) c.in-Divided.field-0 c.args.free.now (ap factor_view c.in-Divided.is ∙ view_divided c.in-Divided.field-0)

pub add_term-returns-in-Variable : goal.add_term-returns-in-Variable
add_term-returns-in-Variable t c =
    seen_added c.add.result (term_view c.args.term.now) (trees.variable c.in-Variable.name) c.args.free.now c.add.new.self (ap term_view c.in-Variable.is ∙ view_variable c.in-Variable.name) c.add.ensures

pub add_term-returns-in-Numeral : goal.add_term-returns-in-Numeral
add_term-returns-in-Numeral t c =
    term_none_added (term_view c.args.term.now) (trees.numeral c.in-Numeral.field-0) c.args.free.now (ap term_view c.in-Numeral.is ∙ view_numeral c.in-Numeral.field-0) refl

pub add_term-returns-in-Some : goal.add_term-returns-in-Some
add_term-returns-in-Some t c =
    product_added c.add_factor.result (term_view c.args.term.now) (term_of (factor_view c.index.result.now)) (factors_view c.in-Product.factors.items) c.args.free.now c.add_factor.new.free
    (ap term_view c.in-Product.is ∙ view_product c.in-Product.factors)
    (ap (λ fs. other_of (factors_view fs)) (sym c.deref.ensures.value) ∙ c.in-Some.ensures.1 c.index.result.now
    ∙ ap (λ fs. Some (term_of (factor_view (get_or fs c.in-Some.i c.index.result.now)))) c.deref.ensures.value ∙ ap (λ f. Some (term_of (factor_view f))) (sym c.index.ensures))
    c.add_factor.ensures

pub add_term-returns-in-None : goal.add_term-returns-in-None
add_term-returns-in-None t c =
    term_none_added (term_view c.args.term.now) (trees.product (factors_view c.in-Product.factors.items)) c.args.free.now (ap term_view c.in-Product.is ∙ view_product c.in-Product.factors)
    (other_none (factors_view c.in-Product.factors.items) (ap (λ fs. other_of (factors_view fs)) (sym c.deref.ensures.value) ∙ c.in-None.ensures))

pub add_term-returns-after-loop-addend : goal.add_term-returns-after-loop-addend
add_term-returns-after-loop-addend t c =
    sum_added c.add_term-in-Sum.result (term_view c.args.term.now) (term_view c.deref-in-Sum.result.now) c.deref-addend-items.result.now c.in-Sum.addends.items c.loop-addend.addend-index
    c.args.free.now c.loop-addend.free c.add_term-in-Sum.new.free
    (ap term_view c.in-Sum.is ∙ view_sum c.in-Sum.addends c.in-Sum.last ∙ ap (λ u. trees.sum (addends_view c.in-Sum.addends.items) (term_view u)) (sym c.deref-in-Sum.ensures))
    c.deref-addend-items.ensures.value c.loop-addend-test.false c.loop-addend.invariant c.add_term-in-Sum.ensures

pub add_term-loop-addend-preserved : goal.add_term-loop-addend-preserved
add_term-loop-addend-preserved t c =
    addend_added c.deref-addend-items.result.now c.loop-addend.addend-index c.addend-item.result c.args.free.now c.loop-addend.free c.add_term.new.free
    (omega (arith, c.loop-addend-test.true)) c.addend-item.is c.loop-addend.invariant c.in_ok-add_term-in-Sum.ensures
