-- The values of terms, part by part.
use Rattle.std.proofs.Common.{◌≡◌, ℕ, ◌+◌, ◌<◌, ◌≤◌, List, length, take, get_or, Option, Result, Ok, Err, IfOk, sym, ◌∙◌, ap}
use Rattle.std.proofs.lemmas.List.{take_all}
use Rattle.formula_parse.specs.Trees as trees
use Rattle.formula_parse.specs.Views.{term_view, factor_view, factors_view, addends_view}
use Rattle.formula_parse.specs.declared.tree.Term.{Term}
use Rattle.formula_parse.specs.declared.tree.Factor.{Factor}
use Rattle.formula_parse.specs.declared.tree.Addend.{Addend}
use Rattle.formula_truth.specs.Assignments.{Assignment}
use Rattle.formula_truth.specs.Values.{both, multiplied, value, product_value, with_factor, sum_value}
use Rattle.formula_truth.specs.Given.{after_sum}
use Rattle.formula_truth.specs.declared.evaluation.Before.{Before}
use Rattle.formula_truth.specs.declared.fault.Undecided.{Undecided}
use Rattle.formula_truth.proofs.ViewLemmas.{factors_more}

-- the value of a term that is seen so
pub value_at : (t : Term) (seen : trees.Term) (a : Assignment) (r : Option ℕ) → term_view t ≡ seen → r ≡ value seen a → r ≡ value (term_view t) a
value_at t seen a r view is = is ∙ sym (ap (λ s. value s a) view)

-- one factor more
pub product_more : (fs : List Factor) (i : ℕ) (f : Factor) (a : Assignment) (product more : Option ℕ) → i < length fs → f ≡ get_or fs i f
    → product_value (factors_view (take i fs)) a ≡ product → more ≡ with_factor (factor_view f) a product → product_value (factors_view (take (i + 1) fs)) a ≡ more
product_more fs i f a product more within at so_far is =
    ap (λ gs. product_value gs a) (factors_more fs i f within ∙ ap (λ g. trees.factors (factors_view (take i fs)) (factor_view g)) (sym at))
    ∙ ap (with_factor (factor_view f) a) so_far ∙ sym is

-- what a factor that is seen so makes of a product
pub factor_at : (f : Factor) (seen : trees.Factor) (a : Assignment) (product r : Option ℕ) → factor_view f ≡ seen → r ≡ with_factor seen a product → r ≡ with_factor (factor_view f) a product
factor_at f seen a product r view is = is ∙ sym (ap (λ g. with_factor g a product) view)

-- a term that a product is multiplied by
pub factor_answers : (f : Factor) (t : Term) (x : Option ℕ) (a : Assignment) (product : Option ℕ) (r : Result (Option ℕ) Undecided) → factor_view f ≡ trees.times (term_view t) → x ≡ value (term_view t) a
    → IfOk r (λ z. z ≡ both multiplied product x) → IfOk r (λ z. z ≡ with_factor (factor_view f) a product)
factor_answers f t x a product (Ok z) view here is = factor_at f (trees.times (term_view t)) a product z view (is ∙ ap (both multiplied product) here)
factor_answers f t x a product (Err e) view here is = is

-- all factors
pub product_end : (fs gs : List Factor) (i : ℕ) (a : Assignment) (product : Option ℕ) → gs ≡ fs → length gs ≤ i → product_value (factors_view (take i gs)) a ≡ product → product ≡ value (trees.product (factors_view fs)) a
product_end fs gs i a product same long so_far = sym so_far ∙ ap (λ hs. product_value (factors_view hs) a) (take_all i gs long ∙ same)

-- the last addend
pub sum_end : (ss qs : List Addend) (t : trees.Term) (i : ℕ) (a : Assignment) (before : Option Before) (x : Option ℕ) (r : Result (Option ℕ) Undecided) → qs ≡ ss → length qs ≤ i
    → ((y : Option ℕ) → sum_value (addends_view (take i qs)) a y ≡ after_sum before y) → x ≡ value t a → IfOk r (λ z. z ≡ after_sum before x)
    → IfOk r (λ z. z ≡ value (trees.sum (addends_view ss) t) a)
sum_end ss qs t i a before x (Ok z) same long so_far here is =
    is ∙ sym (so_far x) ∙ ap (λ hs. sum_value (addends_view hs) a x) (take_all i qs long ∙ same) ∙ ap (λ y. sum_value (addends_view ss) a y) here
sum_end ss qs t i a before x (Err e) same long so_far here is = is
