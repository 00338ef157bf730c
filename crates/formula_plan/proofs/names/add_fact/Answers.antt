use Rattle.std.proofs.Common.{◌++◌, sym, ◌∙◌, ap}
use Rattle.formula_parse.specs.Views.{term_view, terms_view, fact_view}
use Rattle.formula_plan.specs.OwnNames.{own_names, own_among, own_there}
use Rattle.formula_plan.proofs.NamesAdded.{both_added}
use Rattle.formula_plan.proofs.names.add_fact.Goals as goal

pub returns-in_ok-add_term-in-Compare : goal.returns-in_ok-add_term-in-Compare
returns-in_ok-add_term-in-Compare c =
    both_added c.add_term-in-Compare.result c.args.free.now c.add_term.new.free c.add_term-in-Compare.new.free (own_names (term_view c.in-Compare.first)) (own_names (term_view c.in-Compare.second))
    (own_there (fact_view c.args.fact.now)) (ap (λ f. own_there (fact_view f)) c.in-Compare.is) c.in_ok-add_term-in-Compare.ensures c.add_term-in-Compare.ensures

pub returns-in_ok-add_terms-in-Words : goal.returns-in_ok-add_terms-in-Words
returns-in_ok-add_terms-in-Words c =
    both_added c.add_terms-in-Words.result c.args.free.now c.add_terms.new.free c.add_terms-in-Words.new.free (own_among (terms_view c.deref.result.now)) (own_among (terms_view c.deref-in-Words.result.now))
    (own_there (fact_view c.args.fact.now))
    (ap (λ f. own_there (fact_view f)) c.in-Words.is ∙ ap (λ l. own_among (terms_view l) ++ own_among (terms_view c.in-Words.second.places.items)) (sym c.deref.ensures.value)
    ∙ ap (λ l. own_among (terms_view c.deref.result.now) ++ own_among (terms_view l)) (sym c.deref-in-Words.ensures.value))
    c.in_ok-add_terms-in-Words.ensures c.add_terms-in-Words.ensures
