use Rattle.std.proofs.Common.{◌≡◌, ap, sym, subst, ◌∙◌, ◌++◌, ◌∷◌, [], take, OnOk, arith}
use Rattle.std.proofs.lemmas.List.{take_all, append-nil}
use Rattle.formula_parse.specs.Trees as trees
use Rattle.formula_parse.specs.Views.{term_view, factor_view, factors_view, addends_view}
use Rattle.formula_parse.proofs.ViewSteps.{view_variable, view_numeral, view_product, view_sum, view_divided}
use Rattle.formula_resolve.specs.Occurrences.{term_occurrences, factor_of, factor_occurrences, addend_occurrences}
use Rattle.formula_resolve.specs.Scopes.{binders_of}
use Rattle.formula_resolve.proofs.ListLemmas.{added_twice, added_then, factors_then, addends_then}
use Rattle.formula_resolve.proofs.occurrence.+occurring.Goals as goal

pub add_term-returns-in_ok-push-in-Variable : goal.add_term-returns-in_ok-push-in-Variable
add_term-returns-in_ok-push-in-Variable t c =
    c.in_ok-push-in-Variable.ensures.items
    ∙ (λ i. c.args.found.now.items ++ record { name = c.in_ok-copy-in-Variable.ensures i; binder = c.binder.ensures i; system = c.in_ok-copy-in-Variable-2.ensures i } ∷ [])
    ∙ ap (λ s. c.args.found.now.items ++ term_occurrences c.args.system.now (binders_of c.args.scope.now) s) (sym (ap term_view c.in-Variable.is ∙ view_variable c.in-Variable.name))

pub add_term-returns-in-Numeral : goal.add_term-returns-in-Numeral
add_term-returns-in-Numeral t c =
    sym (append-nil c.args.found.now.items)
    ∙ ap (λ s. c.args.found.now.items ++ term_occurrences c.args.system.now (binders_of c.args.scope.now) s) (sym (ap term_view c.in-Numeral.is ∙ view_numeral c.in-Numeral.field-0))

pub add_term-returns-after-loop-factor : goal.add_term-returns-after-loop-factor
add_term-returns-after-loop-factor t c =
    c.loop-factor.invariant
    ∙ ap (λ fs. c.args.found.now.items ++ factor_occurrences c.args.system.now (binders_of c.args.scope.now) (factors_view fs)) (take_all c.loop-factor.factor-index c.deref-factor-items.result.now c.loop-factor-test.false ∙ c.deref-factor-items.ensures.value)
    ∙ ap (λ s. c.args.found.now.items ++ term_occurrences c.args.system.now (binders_of c.args.scope.now) s) (sym (ap term_view c.in-Product.is ∙ view_product c.in-Product.factors))

pub add_term-returns-after-loop-addend : goal.add_term-returns-after-loop-addend
add_term-returns-after-loop-addend t c =
    subst (λ (s : trees.Term). OnOk c.add_term-in-Sum.result (c.add_term-in-Sum.new.found.items ≡ c.args.found.now.items ++ term_occurrences c.args.system.now (binders_of c.args.scope.now) s))
    (sym (ap term_view c.in-Sum.is ∙ view_sum c.in-Sum.addends c.in-Sum.last ∙ ap (λ u. trees.sum (addends_view c.in-Sum.addends.items) (term_view u)) (sym c.deref.ensures)))
    (added_twice c.add_term-in-Sum.result c.args.found.now.items c.loop-addend.found.items c.add_term-in-Sum.new.found.items
    (addend_occurrences c.args.system.now (binders_of c.args.scope.now) (addends_view c.in-Sum.addends.items)) (term_occurrences c.args.system.now (binders_of c.args.scope.now) (term_view c.deref.result.now))
    (c.loop-addend.invariant ∙ ap (λ ss. c.args.found.now.items ++ addend_occurrences c.args.system.now (binders_of c.args.scope.now) (addends_view ss)) (take_all c.loop-addend.addend-index c.deref-addend-items.result.now c.loop-addend-test.false ∙ c.deref-addend-items.ensures.value))
    c.add_term-in-Sum.ensures)

pub add_factor-returns-in-Divided : goal.add_factor-returns-in-Divided
add_factor-returns-in-Divided t c =
    sym (append-nil c.args.found.now.items)
    ∙ ap (λ f. c.args.found.now.items ++ factor_of c.args.system.now (binders_of c.args.scope.now) f) (sym (ap factor_view c.in-Divided.is ∙ view_divided c.in-Divided.field-0))

pub add_term-loop-factor-init : goal.add_term-loop-factor-init
add_term-loop-factor-init t c = sym (append-nil c.args.found.now.items)

pub add_term-loop-addend-init : goal.add_term-loop-addend-init
add_term-loop-addend-init t c = sym (append-nil c.args.found.now.items)

pub add_term-loop-factor-preserved : goal.add_term-loop-factor-preserved
add_term-loop-factor-preserved t c =
    let system = c.args.system.now in
    let binders = binders_of c.args.scope.now in
    let fs = c.deref-factor-items.result.now in
    let i = c.loop-factor.factor-index in
    added_then c.args.found.now.items c.loop-factor.found.items c.add_factor.new.found.items (factor_occurrences system binders (factors_view (take i fs))) (factor_of system binders (factor_view c.factor-item.result))
    c.loop-factor.invariant c.in_ok-add_factor-in-Product.ensures
    ∙ ap (λ v. c.args.found.now.items ++ factor_occurrences system binders v) (sym (factors_then fs i c.factor-item.result (omega (arith, c.loop-factor-test.true)) c.factor-item.is))

pub add_term-loop-addend-preserved : goal.add_term-loop-addend-preserved
add_term-loop-addend-preserved t c =
    let system = c.args.system.now in
    let binders = binders_of c.args.scope.now in
    let ss = c.deref-addend-items.result.now in
    let i = c.loop-addend.addend-index in
    added_then c.args.found.now.items c.loop-addend.found.items c.add_term.new.found.items (addend_occurrences system binders (addends_view (take i ss))) (term_occurrences system binders (term_view c.addend-item.result.term))
    c.loop-addend.invariant c.in_ok-add_term-in-Sum.ensures
    ∙ ap (λ v. c.args.found.now.items ++ addend_occurrences system binders v) (sym (addends_then ss i c.addend-item.result (omega (arith, c.loop-addend-test.true)) c.addend-item.is))
