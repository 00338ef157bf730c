-- Formulas that are read are linear: where the second pass finds no flaw, each product has at most one factor that is no numeral.
use Rattle.std.proofs.Common.{◌≡◌, ℕ, suc, ◌-◌, ◌≤◌, Bool, true, false, not, ◌&&◌, ◌||◌, nat_lt, Option, None, Some, refl, sym, ◌∙◌, ap, subst, arith}
use Rattle.std.proofs.lemmas.Bool.{false≢true}
use Rattle.std.proofs.lemmas.Option.{none-some}
use Rattle.formula_parse.specs.Tokens.{Name}
use Rattle.formula_parse.specs.Trees as trees
use Rattle.formula_parse.specs.Formulas.{Factor, variable, numeral, in_parens, Prod, factor, times, divided, Term, prod, signed, Index, word, further, Terms, term, comma, Atom, compare, words, word_letter, letter_word, call_none, call, WrittenFormula, imp, iff, Imp, chain, implies, Chain, operand, joined, Operand, marked, Core, negated, quantified, grouped, atom}
use Rattle.formula_parse.specs.Building.{multiplied, summed, chained, under_marks}
use Rattle.formula_parse.specs.FormulaTrees.{factor_tree, factors_of, before_prod, last_prod, index_places, terms_tree, fact, marks_system, formula_system, imp_system, chain_system, before_imp, last_imp, before_chain, last_chain, before_operand, last_operand, operand_tree, core_tree, default_system}
use Rattle.formula_parse.specs.Flaws.{Flaw, mixed_chain, not_linear, earlier, byte_of, noted, noted_if, mixes}
use Rattle.formula_parse.specs.FormulaFlaws.{is_numeral, has_unknown, factor_flaw, prod_flaw, term_flaw, index_flaw, terms_flaw, atom_flaw, came_in, is_implied, formula_flaw, imp_flaw, chain_flaw, operand_flaw, core_flaw}
use Rattle.term_plans.specs.Linear.{one_more_unless, others, IsLinear, AreLinearFactors, AreLinearAddends, AreLinear, IsLinearFact, IsLinearFormula, AreLinearOperands}
use Rattle.formula_plan.specs.Laws.{TreesAreLinear}

-- a flaw that is noted is there
noted_there : (g : Flaw) (w : Option Flaw) → noted g w ≡ None → ⊥
noted_there g None none = none-some g (sym none)
noted_there g (Some f) none = none-some (earlier (nat_lt (byte_of g) (byte_of f)) f g) (sym none)

not_noted : (b : Bool) (g : Flaw) (w : Option Flaw) → noted_if b g w ≡ None → (b ≡ false) × (w ≡ None)
not_noted true g w none = absurd (noted_there g w none)
not_noted false g w none = (refl, none)

-- whether a term is a numeral
is_number : trees.Term → Bool
is_number (trees.variable n) = false
is_number (trees.numeral c) = true
is_number (trees.product fs) = false
is_number (trees.sum ss t) = false

-- a product of several factors is a product
multiplied_more : (p : Prod) (g : trees.Factor) → multiplied (trees.factors (factors_of p) g) ≡ trees.product (trees.factors (factors_of p) g)
multiplied_more (factor f) (trees.times t) = refl
multiplied_more (factor f) (trees.divided c) = refl
multiplied_more (times p b f) (trees.times t) = refl
multiplied_more (times p b f) (trees.divided c) = refl
multiplied_more (divided p d) (trees.times t) = refl
multiplied_more (divided p d) (trees.divided c) = refl

numbers_same : (f : Factor) → is_number (factor_tree f) ≡ is_numeral f
unfolding is_number
numbers_same (variable n) = refl
numbers_same (numeral n) = refl
numbers_same (in_parens (prod (factor f))) = numbers_same f
numbers_same (in_parens (prod (times p b f))) = ap is_number (multiplied_more p (trees.times (factor_tree f)))
numbers_same (in_parens (prod (divided p c))) = ap is_number (multiplied_more p (trees.divided (suc c)))
numbers_same (in_parens (signed t s p)) = refl

-- how many factors are no numerals: one, or none
Count : Bool → ℕ → Type 0
Count true n = n ≡ 1
Count false n = n ≡ 0

one_more : (unknown : Bool) (n : ℕ) (t : trees.Term) → Count unknown n → (unknown && not (is_number t)) ≡ false → Count (unknown || not (is_number t)) (one_more_unless t n)
unfolding Count is_number
one_more true n (trees.variable x) count none = absurd (false≢true (sym none))
one_more true n (trees.numeral c) count none = count
one_more true n (trees.product fs) count none = absurd (false≢true (sym none))
one_more true n (trees.sum ss t) count none = absurd (false≢true (sym none))
one_more false n (trees.variable x) count none = ap suc count
one_more false n (trees.numeral c) count none = count
one_more false n (trees.product fs) count none = ap suc count
one_more false n (trees.sum ss t) count none = ap suc count

none_so_far : Count false 0
unfolding Count
none_so_far = refl

at_most_one : (b : Bool) (n : ℕ) → Count b n → n ≤ 1
unfolding Count
at_most_one true n count = omega (arith, count)
at_most_one false n count = omega (arith, count)

-- and a quotient is one
one_quotient : (b : Bool) (n : ℕ) → Count b n → Count true (suc (n - 1))
unfolding Count
one_quotient true n count = let one : n ≡ 1 = count in omega (arith, one)
one_quotient false n count = let none : n ≡ 0 = count in omega (arith, none)

multiplied_linear : (fs : trees.Factors) → AreLinearFactors fs → others fs ≤ 1 → IsLinear (multiplied fs)
multiplied_linear trees.no_factors all few = (few, all)
multiplied_linear (trees.factors trees.no_factors (trees.times t)) all few = all.1
multiplied_linear (trees.factors trees.no_factors (trees.divided c)) all few = (few, all)
multiplied_linear (trees.factors (trees.factors fs g) (trees.times t)) all few = (few, all)
multiplied_linear (trees.factors (trees.factors fs g) (trees.divided c)) all few = (few, all)

summed_linear : (ss : trees.Addends) (t : trees.Term) → AreLinearAddends ss → IsLinear t → IsLinear (summed ss t)
summed_linear trees.no_addends t all one = one
summed_linear (trees.addends ss u s) t all one = (all, one)

-- what is known of a product without a flaw
record IsLinearProduct (w : Option Flaw) (p : Prod) : Type 0 where
  before : w ≡ None
  all : AreLinearFactors (factors_of p)
  count : Count (has_unknown p) (others (factors_of p))

product_linear : (p : Prod) (w : Option Flaw) → IsLinearProduct w p → IsLinear (multiplied (factors_of p))
product_linear p w is = multiplied_linear (factors_of p) is.all (at_most_one (has_unknown p) (others (factors_of p)) is.count)

mutual
  factor_linear : (f : Factor) (w : Option Flaw) → factor_flaw w f ≡ None → (w ≡ None) × IsLinear (factor_tree f)
  factor_linear (variable n) w none = (none, tt)
  factor_linear (numeral n) w none = (none, tt)
  factor_linear (in_parens t) w none =
      let is = term_linear t w none in
      (is.0, summed_linear (before_prod t) (last_prod t) is.1 is.2)

  prod_linear : (p : Prod) (w : Option Flaw) → prod_flaw w p ≡ None → IsLinearProduct w p
  prod_linear (factor f) w none =
      let one = factor_linear f w none in
      record {
        before = one.0;
        all = (tt, one.1);
        count = subst (λ b. Count (not b) (one_more_unless (factor_tree f) 0)) (numbers_same f) (one_more false 0 (factor_tree f) none_so_far refl);
      }
  prod_linear (times p b f) w none =
      let here = not_noted (has_unknown p && not (is_numeral f)) (not_linear b) (factor_flaw (prod_flaw w p) f) none in
      let one = factor_linear f (prod_flaw w p) here.1 in
      let before = prod_linear p w one.0 in
      record {
        before = before.before;
        all = (before.all, one.1);
        count = subst (λ c. Count (has_unknown p || not c) (one_more_unless (factor_tree f) (others (factors_of p)))) (numbers_same f)
            (one_more (has_unknown p) (others (factors_of p)) (factor_tree f) before.count (ap (λ c. has_unknown p && not c) (numbers_same f) ∙ here.0));
      }
  prod_linear (divided p c) w none =
      let before = prod_linear p w none in
      record { before = before.before; all = before.all; count = one_quotient (has_unknown p) (others (factors_of p)) before.count }

  term_linear : (t : Term) (w : Option Flaw) → term_flaw w t ≡ None → (w ≡ None) × AreLinearAddends (before_prod t) × IsLinear (last_prod t)
  term_linear (prod p) w none =
      let is = prod_linear p w none in
      (is.before, tt, product_linear p w is)
  term_linear (signed t s p) w none =
      let last = prod_linear p (term_flaw w t) none in
      let before = term_linear t w last.before in
      (before.0, (before.1, before.2), product_linear p (term_flaw w t) last)

whole_linear : (t : Term) (w : Option Flaw) → term_flaw w t ≡ None → (w ≡ None) × IsLinear (summed (before_prod t) (last_prod t))
whole_linear t w none =
    let is = term_linear t w none in
    (is.0, summed_linear (before_prod t) (last_prod t) is.1 is.2)

index_linear : (x : Index) (w : Option Flaw) → index_flaw w x ≡ None → (w ≡ None) × AreLinear (index_places x)
index_linear (word n t) w none =
    let is = whole_linear t w none in
    (is.0, (tt, is.1))
index_linear (further x t) w none =
    let last = whole_linear t (index_flaw w x) none in
    let before = index_linear x w last.0 in
    (before.0, (before.1, last.1))

terms_linear : (ts : Terms) (w : Option Flaw) → terms_flaw w ts ≡ None → (w ≡ None) × AreLinear (terms_tree ts)
terms_linear (term t) w none =
    let is = whole_linear t w none in
    (is.0, (tt, is.1))
terms_linear (comma ts t) w none =
    let last = whole_linear t (terms_flaw w ts) none in
    let before = terms_linear ts w last.0 in
    (before.0, (before.1, last.1))

atom_linear : (a : Atom) (w : Option Flaw) → atom_flaw w a ≡ None → (w ≡ None) × IsLinearFact (fact a)
atom_linear (compare t e u) w none =
    let second = whole_linear u (term_flaw w t) none in
    let first = whole_linear t w second.0 in
    (first.0, (first.1, second.1))
atom_linear (words x e z) w none =
    let second = index_linear z (index_flaw w x) none in
    let first = index_linear x w second.0 in
    (first.0, (first.1, second.1))
atom_linear (word_letter x e l) w none = index_linear x w none
atom_linear (letter_word l e x) w none = index_linear x w none
atom_linear (call_none n) w none = (none, tt)
atom_linear (call n ts) w none = terms_linear ts w none

chained_linear : (os : trees.Operands) (f : trees.Formula) → AreLinearOperands os → IsLinearFormula f → IsLinearFormula (chained os f)
chained_linear trees.no_operands f all one = one
chained_linear (trees.operands os g j) f all one = (all, one)

marks_linear : (ms : trees.Names) (f : trees.Formula) → IsLinearFormula f → IsLinearFormula (under_marks ms f)
marks_linear trees.no_names f one = one
marks_linear (trees.names ms n) f one = one

mutual
  formula_linear : (f : WrittenFormula) (y : Name) (w : Option Flaw) → formula_flaw w f ≡ None → (w ≡ None) × AreLinearOperands (before_imp y f) × IsLinearFormula (last_imp y f)
  formula_linear (imp i) y w none =
      let is = imp_linear i y w none in
      (is.0, tt, chained_linear (before_chain y i) (last_chain y i) is.1 is.2)
  formula_linear (iff f i) y w none =
      let z = formula_system y f in
      let last = imp_linear i z (formula_flaw w f) none in
      let before = formula_linear f y w last.0 in
      (before.0, (before.1, before.2), chained_linear (before_chain z i) (last_chain z i) last.1 last.2)

  imp_linear : (i : Imp) (y : Name) (w : Option Flaw) → imp_flaw w i ≡ None → (w ≡ None) × AreLinearOperands (before_chain y i) × IsLinearFormula (last_chain y i)
  imp_linear (chain c) y w none =
      let is = chain_linear c y w none in
      (is.0, tt, chained_linear (before_operand y c) (last_operand y c) is.1 is.2)
  imp_linear (implies i b c) y w none =
      let z = imp_system y i in
      let last = chain_linear c z (noted_if (is_implied i) (mixed_chain b) (imp_flaw w i)) none in
      let before = imp_linear i y w (not_noted (is_implied i) (mixed_chain b) (imp_flaw w i) last.0).1 in
      (before.0, (before.1, before.2), chained_linear (before_operand z c) (last_operand z c) last.1 last.2)

  chain_linear : (c : Chain) (y : Name) (w : Option Flaw) → chain_flaw w c ≡ None → (w ≡ None) × AreLinearOperands (before_operand y c) × IsLinearFormula (last_operand y c)
  chain_linear (operand o) y w none =
      let is = operand_linear o y w none in
      (is.0, tt, is.1)
  chain_linear (joined c k b o) y w none =
      let last = operand_linear o (chain_system y c) (noted_if (mixes k (came_in c)) (mixed_chain b) (chain_flaw w c)) none in
      let before = chain_linear c y w (not_noted (mixes k (came_in c)) (mixed_chain b) (chain_flaw w c) last.0).1 in
      (before.0, (before.1, before.2), last.1)

  operand_linear : (o : Operand) (y : Name) (w : Option Flaw) → operand_flaw w o ≡ None → (w ≡ None) × IsLinearFormula (operand_tree y o)
  operand_linear (marked ms c) y w none =
      let is = core_linear c (marks_system y ms) w none in
      (is.0, marks_linear ms (core_tree (marks_system y ms) c) is.1)

  core_linear : (c : Core) (y : Name) (w : Option Flaw) → core_flaw w c ≡ None → (w ≡ None) × IsLinearFormula (core_tree y c)
  core_linear (negated o) y w none = operand_linear o y w none
  core_linear (quantified q f) y w none =
      let is = formula_linear f y w none in
      (is.0, chained_linear (before_imp y f) (last_imp y f) is.1 is.2)
  core_linear (grouped f) y w none =
      let is = formula_linear f y w none in
      (is.0, chained_linear (before_imp y f) (last_imp y f) is.1 is.2)
  core_linear (atom a) y w none = atom_linear a w none

pub trees_are_linear : TreesAreLinear
trees_are_linear ts tree reads =
    let is = formula_linear reads.text default_system None reads.flawless in
    subst IsLinearFormula reads.tree_is (chained_linear (before_imp default_system reads.text) (last_imp default_system reads.text) is.1 is.2)
