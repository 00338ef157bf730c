-- The least flaw so far, after a derivation.
use Rattle.std.specs.Prelude.{Bool, true, false, ◌&&◌, Option}
use Rattle.formula_parse.specs.Flaws.{Flaw, mixed_chain, noted_if, noted_factor, Product, product_start, product_next, Came, none_came, came_next, mixes}
use Rattle.formula_parse.proofs.Derivations.{Factor, variable, numeral, in_parens, Factors, no_factors, factors, Prod, prod, divided, Addends, no_addends, addends, Term, term, Terms, no_terms, terms, Index, index, Core, compare, words, word_letter, letter_word, call_none, call, not_closed, grouped, Closed, marked, Operands, no_operands, operands, Chains, no_chains, chains, Implications, no_implications, implications, Last, ends, quantified, Formula, formula}

abbrev pub is_lone : Addends → Bool
is_lone no_addends = true
is_lone (addends ss m s) = false

-- a numeral, or one in parentheses
abbrev mutual
  pub is_numeral : Factor → Bool
  is_numeral (variable n) = false
  is_numeral (numeral n) = true
  is_numeral (in_parens t) = is_numeral_term t

  pub is_numeral_term : Term → Bool
  is_numeral_term (term ss m) = (product_of (is_lone ss) m).lone && ends_in_numeral m

  pub ends_in_numeral : Prod → Bool
  ends_in_numeral (prod ps f) = is_numeral f
  ends_in_numeral (divided m c) = false

  pub product_before : Bool → Factors → Product
  product_before l no_factors = product_start l
  product_before l (factors m b) = product_next (product_of l m) (ends_in_numeral m) b

  -- before the last factor
  pub product_of : Bool → Prod → Product
  product_of l (prod ps f) = product_before l ps
  product_of l (divided m c) = product_of l m

-- The least flaw so far, after a derivation.
abbrev mutual
  pub factor_flaw : Option Flaw → Factor → Option Flaw
  factor_flaw w (variable n) = w
  factor_flaw w (numeral n) = w
  factor_flaw w (in_parens t) = term_flaw w t

  -- after a factor, and what comes before it in its product
  pub factors_flaw : Option Flaw → Bool → Factors → Option Flaw
  factors_flaw w l no_factors = w
  factors_flaw w l (factors m b) = prod_flaw w l m

  pub prod_flaw : Option Flaw → Bool → Prod → Option Flaw
  prod_flaw w l (prod ps f) = noted_factor (product_before l ps) (is_numeral f) (factor_flaw (factors_flaw w l ps) f)
  prod_flaw w l (divided m c) = prod_flaw w l m

  pub addends_flaw : Option Flaw → Addends → Option Flaw
  addends_flaw w no_addends = w
  addends_flaw w (addends ss m s) = prod_flaw (addends_flaw w ss) (is_lone ss) m

  pub term_flaw : Option Flaw → Term → Option Flaw
  term_flaw w (term ss m) = prod_flaw (addends_flaw w ss) (is_lone ss) m

abbrev pub terms_flaw : Option Flaw → Terms → Option Flaw
terms_flaw w no_terms = w
terms_flaw w (terms ts t) = term_flaw (terms_flaw w ts) t

abbrev pub index_flaw : Option Flaw → Index → Option Flaw
index_flaw w (index n ts t) = term_flaw (terms_flaw w ts) t

abbrev pub came_of : Operands → Came
came_of no_operands = none_came
came_of (operands os c k b) = came_next k (came_of os)

-- whether a `=>` has come
abbrev pub is_implied : Chains → Bool
is_implied no_chains = false
is_implied (chains hs os c b) = true

abbrev mutual
  pub core_flaw : Option Flaw → Core → Option Flaw
  core_flaw w (compare t e u) = term_flaw (term_flaw w t) u
  core_flaw w (words x e z) = index_flaw (index_flaw w x) z
  core_flaw w (word_letter x e l) = index_flaw w x
  core_flaw w (letter_word l e x) = index_flaw w x
  core_flaw w (call_none n) = w
  core_flaw w (call n ts t) = term_flaw (terms_flaw w ts) t
  core_flaw w (not_closed c) = closed_flaw w c
  core_flaw w (grouped f) = formula_flaw w f

  pub closed_flaw : Option Flaw → Closed → Option Flaw
  closed_flaw w (marked ms c) = core_flaw w c

  pub operands_flaw : Option Flaw → Operands → Option Flaw
  operands_flaw w no_operands = w
  operands_flaw w (operands os c k b) = noted_if (mixes k (came_of os)) (mixed_chain b) (closed_flaw (operands_flaw w os) c)

  pub chains_flaw : Option Flaw → Chains → Option Flaw
  chains_flaw w no_chains = w
  chains_flaw w (chains hs os c b) = noted_if (is_implied hs) (mixed_chain b) (closed_flaw (operands_flaw (chains_flaw w hs) os) c)

  pub implications_flaw : Option Flaw → Implications → Option Flaw
  implications_flaw w no_implications = w
  implications_flaw w (implications is hs os c) = closed_flaw (operands_flaw (chains_flaw (implications_flaw w is) hs) os) c

  pub last_flaw : Option Flaw → Last → Option Flaw
  last_flaw w (ends c) = closed_flaw w c
  last_flaw w (quantified st ms q n f) = formula_flaw w f

  pub formula_flaw : Option Flaw → Formula → Option Flaw
  formula_flaw w (formula is hs os l) = last_flaw (operands_flaw (chains_flaw (implications_flaw w is) hs) os) l
