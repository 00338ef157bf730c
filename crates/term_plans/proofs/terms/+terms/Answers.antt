use Rattle.std.proofs.Common.{arith, map, Some, get_or, ap, ◌∙◌, None, refl, sym}
use Rattle.formula_parse.specs.Trees as trees
use Rattle.formula_parse.specs.Views.{term_view, factor_view, factors_view, addends_view}
use Rattle.formula_parse.proofs.ViewSteps.{view_variable, view_numeral, view_product, view_sum, view_divided}
use Rattle.term_plans.specs.Tracks as tracks
use Rattle.term_plans.specs.TermPlans.{Placed, factor_plans}
use Rattle.term_plans.specs.TermPlanning.{other_of, term_of, scaling_view}
use Rattle.term_plans.specs.declared.track.Track.TheVariants.{Own}
use Rattle.term_plans.proofs.TermsMade.{divisor_does, variable_does, seen_answers, product_answers, numerals_answers, sum_more, sum_answers_all}
use Rattle.term_plans.proofs.terms.+terms.Goals as goal

pub term_of_factor-returns-in-Divided : goal.term_of_factor-returns-in-Divided
term_of_factor-returns-in-Divided t c =
    divisor_does c.numeral.result c.args.system.now (factor_view c.args.factor.now) c.in-Divided.divisor c.args.planner.now c.numeral.new.planner
    (ap factor_view c.in-Divided.is ∙ view_divided c.in-Divided.divisor) c.numeral.ensures

pub term-returns-in-Variable : goal.term-returns-in-Variable
term-returns-in-Variable t c =
    variable_does c.args.system.now (term_view c.args.whole.now) c.args.planner.now (record { track = Own c.in_ok-name-in-Variable.name; relation = None }) c.in-Variable.name
    (ap term_view c.in-Variable.is ∙ view_variable c.in-Variable.name) refl
    (ap (λ n. let p : Placed = record { track = tracks.own n; relation = None } in p) c.in_ok-name-in-Variable.ensures)

pub term-returns-in-Numeral : goal.term-returns-in-Numeral
term-returns-in-Numeral t c =
    seen_answers c.numeral.result c.args.system.now (term_view c.args.whole.now) (trees.numeral c.in-Numeral.number) c.args.planner.now c.numeral.new.planner
    (ap term_view c.in-Numeral.is ∙ view_numeral c.in-Numeral.number) c.numeral.ensures

pub term-returns-in-Some : goal.term-returns-in-Some
term-returns-in-Some t c =
    seen_answers c.scaled_by_all.result c.args.system.now (term_view c.args.whole.now) (trees.product (factors_view c.in-Product.factors.items)) c.args.planner.now c.scaled_by_all.new.planner
    (ap term_view c.in-Product.is ∙ view_product c.in-Product.factors)
    (product_answers c.scaled_by_all.result c.args.system.now (factors_view c.in-Product.factors.items) (term_of (factor_view c.index.result.now)) (map scaling_view c.deref-in-Some.result.now) c.args.planner.now c.term_of_factor.new.planner c.scaled_by_all.new.planner
    c.in_ok-first-in-Some.first c.in_ok-first-in-Some.ensures
    (ap (λ fs. other_of (factors_view fs)) (sym c.deref-in-Product.ensures.value) ∙ c.in-Some.ensures.1 c.index.result.now
    ∙ ap (λ fs. Some (term_of (factor_view (get_or fs c.in-Some.i c.index.result.now)))) c.deref-in-Product.ensures.value ∙ ap (λ f. Some (term_of (factor_view f))) (sym c.index.ensures))
    (ap (λ fs. (factor_plans c.args.system.now (factors_view fs)).scalings) (sym c.deref.ensures.value) ∙ c.in_ok-found-in-Product.ensures c.args.system.now ∙ ap (map scaling_view) (sym c.deref-in-Some.ensures.value))
    c.scaled_by_all.ensures)

pub term-returns-in-Product : goal.term-returns-in-Product
term-returns-in-Product t c =
    seen_answers c.numeral_product.result c.args.system.now (term_view c.args.whole.now) (trees.product (factors_view c.in-Product.factors.items)) c.args.planner.now c.numeral_product.new.planner
    (ap term_view c.in-Product.is ∙ view_product c.in-Product.factors)
    (numerals_answers c.numeral_product.result c.args.system.now (factors_view c.in-Product.factors.items) (map scaling_view c.deref-in-None.result.now) c.args.planner.now c.numeral_product.new.planner
    (ap (λ fs. other_of (factors_view fs)) (sym c.deref-in-Product.ensures.value) ∙ c.in-None.ensures)
    (ap (λ fs. (factor_plans c.args.system.now (factors_view fs)).scalings) (sym c.deref.ensures.value) ∙ c.in_ok-found-in-Product.ensures c.args.system.now ∙ ap (map scaling_view) (sym c.deref-in-None.ensures.value))
    c.numeral_product.ensures)

pub term-loop-addend-preserved : goal.term-loop-addend-preserved
term-loop-addend-preserved t c =
    sum_more c.args.system.now c.deref-addend-items.result.now c.loop-addend.addend-index c.addend-item.result c.args.planner.now c.loop-addend.planner c.term.new.planner c.added.new.planner c.loop-addend.before
    c.in_ok-value-in-Sum.value c.in_ok-sum-in-Sum.sum (omega (arith, c.loop-addend-test.true)) c.addend-item.is c.loop-addend.invariant c.in_ok-value-in-Sum.ensures c.in_ok-sum-in-Sum.ensures

pub term-returns : goal.term-returns
term-returns t c =
    sum_answers_all c.added-in-Sum.result c.args.system.now (term_view c.args.whole.now) (term_view c.deref-in-Sum.result.now) c.deref-addend-items.result.now c.in-Sum.addends.items c.loop-addend.addend-index
    c.args.planner.now c.loop-addend.planner c.term-in-Sum.new.planner c.added-in-Sum.new.planner c.loop-addend.before c.in_ok-value-in-Sum-2.value
    (ap term_view c.in-Sum.is ∙ view_sum c.in-Sum.addends c.in-Sum.last ∙ ap (λ u. trees.sum (addends_view c.in-Sum.addends.items) (term_view u)) (sym c.deref-in-Sum.ensures))
    c.deref-addend-items.ensures.value c.loop-addend-test.false c.loop-addend.invariant c.in_ok-value-in-Sum-2.ensures c.added-in-Sum.ensures
