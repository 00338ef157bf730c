-- What a derivation is made to, from the system in force before it. A `?` mark holds to the end of the innermost parentheses.
use Rattle.std.specs.Prelude.{List, [], ◌∷◌}
use Rattle.formula_parse.specs.Tokens.{Name}
use Rattle.formula_parse.specs.Trees.{Names}
use Rattle.formula_parse.specs.Making.{Kinds, Making}
use Rattle.formula_parse.proofs.Derivations.{Factor, variable, numeral, in_parens, Factors, no_factors, factors, Prod, prod, divided, Addends, no_addends, addends, Term, term, Terms, no_terms, terms, Index, index, Core, compare, words, word_letter, letter_word, call_none, call, not_closed, grouped, Closed, marked, Operands, no_operands, operands, Chains, no_chains, chains, Implications, no_implications, implications, Last, ends, quantified, Formula, formula}
use Rattle.formula_parse.specs.FormulaTrees.{marks_system}

abbrev pub tildes_system : Name → List Names → Name
tildes_system y [] = y
tildes_system y (ms ∷ st) = marks_system (tildes_system y st) ms

-- the system in force after an operand: that of its last mark outside of parentheses
abbrev mutual
  pub core_system : Name → Core → Name
  core_system y (not_closed c) = closed_system y c
  core_system y (compare t e u) = y
  core_system y (words x e z) = y
  core_system y (word_letter x e l) = y
  core_system y (letter_word l e x) = y
  core_system y (call_none n) = y
  core_system y (call n ts t) = y
  core_system y (grouped f) = y

  pub closed_system : Name → Closed → Name
  closed_system y (marked ms c) = core_system (marks_system y ms) c

abbrev pub operands_system : Name → Operands → Name
operands_system y no_operands = y
operands_system y (operands os c k b) = closed_system (operands_system y os) c

abbrev pub chains_system : Name → Chains → Name
chains_system y no_chains = y
chains_system y (chains hs os c b) = closed_system (operands_system (chains_system y hs) os) c

abbrev pub implications_system : Name → Implications → Name
implications_system y no_implications = y
implications_system y (implications is hs os c) = closed_system (operands_system (chains_system (implications_system y is) hs) os) c

module _ {K : Kinds} (A : Making K) where
  abbrev mutual
    pub factor_of : Factor → K.Factor
    factor_of (variable n) = A.variable n
    factor_of (numeral n) = A.numeral n
    factor_of (in_parens t) = A.in_parens (term_of t)

    pub factors_of : Factors → K.Factors
    factors_of no_factors = A.no_factors
    factors_of (factors m b) = A.factors (prod_of m) b

    pub prod_of : Prod → K.Prod
    prod_of (prod ps f) = A.prod (factors_of ps) (factor_of f)
    prod_of (divided m c) = A.divided (prod_of m) c

    pub addends_of : Addends → K.Addends
    addends_of no_addends = A.no_addends
    addends_of (addends ss m s) = A.addends (addends_of ss) (prod_of m) s

    pub term_of : Term → K.Term
    term_of (term ss m) = A.term (addends_of ss) (prod_of m)

  abbrev pub terms_of : Terms → K.Terms
  terms_of no_terms = A.no_terms
  terms_of (terms ts t) = A.terms (terms_of ts) (term_of t)

  abbrev pub index_of : Index → K.Index
  index_of (index n ts t) = A.index n (terms_of ts) (term_of t)

  abbrev mutual
    pub core_of : Name → Core → K.Core
    core_of y (compare t e u) = A.compare y (term_of t) e (term_of u)
    core_of y (words x e z) = A.words y (index_of x) e (index_of z)
    core_of y (word_letter x e l) = A.word_letter y (index_of x) e (A.letter l)
    core_of y (letter_word l e x) = A.letter_word y (A.letter l) e (index_of x)
    core_of y (call_none n) = A.call_none y n
    core_of y (call n ts t) = A.call y n (terms_of ts) (term_of t)
    core_of y (not_closed c) = A.not_closed (closed_of y c)
    core_of y (grouped f) = A.grouped (formula_of y f)

    pub closed_of : Name → Closed → K.Closed
    closed_of y (marked ms c) = A.marked ms (core_of (marks_system y ms) c)

    pub operands_of : Name → Operands → K.Operands
    operands_of y no_operands = A.no_operands
    operands_of y (operands os c k b) = A.operands (operands_of y os) (closed_of (operands_system y os) c) k b

    pub chains_of : Name → Chains → K.Chains
    chains_of y no_chains = A.no_chains
    chains_of y (chains hs os c b) =
        A.chains (chains_of y hs) (operands_of (chains_system y hs) os) (closed_of (operands_system (chains_system y hs) os) c) b

    pub implications_of : Name → Implications → K.Implications
    implications_of y no_implications = A.no_implications
    implications_of y (implications is hs os c) =
        let z = implications_system y is in
        A.implications (implications_of y is) (chains_of z hs) (operands_of (chains_system z hs) os) (closed_of (operands_system (chains_system z hs) os) c)

    pub last_of : Name → Last → K.Last
    last_of y (ends c) = A.ends (closed_of y c)
    last_of y (quantified st ms q n f) = A.quantified st ms q n (formula_of (marks_system (tildes_system y st) ms) f)

    pub formula_of : Name → Formula → K.Formula
    formula_of y (formula is hs os l) =
        let z = implications_system y is in
        A.formula (implications_of y is) (chains_of z hs) (operands_of (chains_system z hs) os) (last_of (operands_system (chains_system z hs) os) l)
