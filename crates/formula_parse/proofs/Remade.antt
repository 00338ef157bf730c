-- Derivations made of derivations are those derivations.
use Rattle.std.proofs.Common.{◌≡◌, refl, ap}
use Rattle.formula_parse.specs.Tokens.{Name}
use Rattle.formula_parse.proofs.Derivations.{Factor, variable, numeral, in_parens, Factors, no_factors, factors, Prod, prod, divided, Addends, no_addends, addends, Term, term, Terms, no_terms, terms, Index, index, Core, compare, words, word_letter, letter_word, call_none, call, not_closed, grouped, Closed, marked, Operands, no_operands, operands, Chains, no_chains, chains, Implications, no_implications, implications, Last, ends, quantified, Formula, formula, derivations}
use Rattle.formula_parse.specs.FormulaTrees.{marks_system}
use Rattle.formula_parse.proofs.Systems.{tildes_system, operands_system, chains_system, implications_system, factor_of, factors_of, prod_of, addends_of, term_of, terms_of, index_of, core_of, closed_of, operands_of, chains_of, implications_of, last_of, formula_of}

mutual
  factor_remade : (f : Factor) → factor_of derivations f ≡ f
  factor_remade (variable n) = refl
  factor_remade (numeral n) = refl
  factor_remade (in_parens t) = ap in_parens (term_remade t)

  factors_remade : (ps : Factors) → factors_of derivations ps ≡ ps
  factors_remade no_factors = refl
  factors_remade (factors m b) = cc (prod_remade m)

  prod_remade : (m : Prod) → prod_of derivations m ≡ m
  prod_remade (prod ps f) = cc (factors_remade ps, factor_remade f)
  prod_remade (divided m c) = cc (prod_remade m)

  addends_remade : (ss : Addends) → addends_of derivations ss ≡ ss
  addends_remade no_addends = refl
  addends_remade (addends ss m s) = cc (addends_remade ss, prod_remade m)

  term_remade : (t : Term) → term_of derivations t ≡ t
  term_remade (term ss m) = cc (addends_remade ss, prod_remade m)

terms_remade : (ts : Terms) → terms_of derivations ts ≡ ts
terms_remade no_terms = refl
terms_remade (terms ts t) = cc (terms_remade ts, term_remade t)

index_remade : (x : Index) → index_of derivations x ≡ x
index_remade (index n ts t) = cc (terms_remade ts, term_remade t)

mutual
  core_remade : (y : Name) (c : Core) → core_of derivations y c ≡ c
  core_remade y (compare t e u) = cc (term_remade t, term_remade u)
  core_remade y (words x e z) = cc (index_remade x, index_remade z)
  core_remade y (word_letter x e l) = cc (index_remade x)
  core_remade y (letter_word l e x) = cc (index_remade x)
  core_remade y (call_none n) = refl
  core_remade y (call n ts t) = cc (terms_remade ts, term_remade t)
  core_remade y (not_closed c) = ap not_closed (closed_remade y c)
  core_remade y (grouped f) = ap grouped (formula_remade y f)

  closed_remade : (y : Name) (c : Closed) → closed_of derivations y c ≡ c
  closed_remade y (marked ms c) = ap (marked ms) (core_remade (marks_system y ms) c)

  operands_remade : (y : Name) (os : Operands) → operands_of derivations y os ≡ os
  operands_remade y no_operands = refl
  operands_remade y (operands os c k b) = cc (operands_remade y os, closed_remade (operands_system y os) c)

  chains_remade : (y : Name) (hs : Chains) → chains_of derivations y hs ≡ hs
  chains_remade y no_chains = refl
  chains_remade y (chains hs os c b) = cc (chains_remade y hs, operands_remade (chains_system y hs) os, closed_remade (operands_system (chains_system y hs) os) c)

  implications_remade : (y : Name) (is : Implications) → implications_of derivations y is ≡ is
  implications_remade y no_implications = refl
  implications_remade y (implications is hs os c) =
      let z = implications_system y is in
      cc (implications_remade y is, chains_remade z hs, operands_remade (chains_system z hs) os, closed_remade (operands_system (chains_system z hs) os) c)

  last_remade : (y : Name) (l : Last) → last_of derivations y l ≡ l
  last_remade y (ends c) = ap ends (closed_remade y c)
  last_remade y (quantified st ms q n f) = ap (quantified st ms q n) (formula_remade (marks_system (tildes_system y st) ms) f)

  pub formula_remade : (y : Name) (f : Formula) → formula_of derivations y f ≡ f
  formula_remade y (formula is hs os l) =
      let z = implications_system y is in
      cc (implications_remade y is, chains_remade z hs, operands_remade (chains_system z hs) os, last_remade (operands_system (chains_system z hs) os) l)
