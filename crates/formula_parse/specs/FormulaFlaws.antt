-- The faults that a formula of the grammar may still have. The one at the least byte is kept.
use Rattle.std.specs.Prelude.{Bool, true, false, not, ◌&&◌, ◌||◌, Option}
use Rattle.formula_parse.specs.Flaws.{Flaw, mixed_chain, not_linear, noted_if, Came, none_came, came_next, mixes}
use Rattle.formula_parse.specs.Formulas.{Factor, variable, numeral, in_parens, Prod, factor, times, divided, Term, prod, signed, Index, word, further, Terms, term, comma, Atom, compare, words, word_letter, letter_word, call_none, call, WrittenFormula, imp, iff, Imp, chain, implies, Chain, operand, joined, Operand, marked, Core, negated, quantified, grouped, atom}

-- a numeral, or one in parentheses
abbrev mutual
  pub is_numeral : Factor → Bool
  is_numeral (variable n) = false
  is_numeral (numeral n) = true
  is_numeral (in_parens t) = is_numeral_term t

  pub is_numeral_term : Term → Bool
  is_numeral_term (prod p) = is_numeral_prod p
  is_numeral_term (signed t s p) = false

  pub is_numeral_prod : Prod → Bool
  is_numeral_prod (factor f) = is_numeral f
  is_numeral_prod (times p b f) = false
  is_numeral_prod (divided p c) = false

-- whether a factor is no numeral; a quotient is none
abbrev pub has_unknown : Prod → Bool
has_unknown (factor f) = not (is_numeral f)
has_unknown (times p b f) = has_unknown p || not (is_numeral f)
has_unknown (divided p c) = true

-- The least flaw so far, with those of each. A `*` before a second factor that is no numeral is one.
abbrev mutual
  pub factor_flaw : Option Flaw → Factor → Option Flaw
  factor_flaw w (variable n) = w
  factor_flaw w (numeral n) = w
  factor_flaw w (in_parens t) = term_flaw w t

  pub prod_flaw : Option Flaw → Prod → Option Flaw
  prod_flaw w (factor f) = factor_flaw w f
  prod_flaw w (times p b f) = noted_if (has_unknown p && not (is_numeral f)) (not_linear b) (factor_flaw (prod_flaw w p) f)
  prod_flaw w (divided p c) = prod_flaw w p

  pub term_flaw : Option Flaw → Term → Option Flaw
  term_flaw w (prod p) = prod_flaw w p
  term_flaw w (signed t s p) = prod_flaw (term_flaw w t) p

abbrev pub index_flaw : Option Flaw → Index → Option Flaw
index_flaw w (word n t) = term_flaw w t
index_flaw w (further x t) = term_flaw (index_flaw w x) t

abbrev pub terms_flaw : Option Flaw → Terms → Option Flaw
terms_flaw w (term t) = term_flaw w t
terms_flaw w (comma ts t) = term_flaw (terms_flaw w ts) t

abbrev pub atom_flaw : Option Flaw → Atom → Option Flaw
atom_flaw w (compare t e u) = term_flaw (term_flaw w t) u
atom_flaw w (words x e z) = index_flaw (index_flaw w x) z
atom_flaw w (word_letter x e l) = index_flaw w x
atom_flaw w (letter_word l e x) = index_flaw w x
atom_flaw w (call_none n) = w
atom_flaw w (call n ts) = terms_flaw w ts

-- which of `|` and `^` have come in a chain
abbrev pub came_in : Chain → Came
came_in (operand o) = none_came
came_in (joined c k b o) = came_next k (came_in c)

-- whether a `=>` has come in an implication
abbrev pub is_implied : Imp → Bool
is_implied (chain c) = false
is_implied (implies i b c) = true

-- A connective that its chain does not mix with those before it is a flaw, and so is a second `=>`.
abbrev mutual
  pub formula_flaw : Option Flaw → WrittenFormula → Option Flaw
  formula_flaw w (imp i) = imp_flaw w i
  formula_flaw w (iff f i) = imp_flaw (formula_flaw w f) i

  pub imp_flaw : Option Flaw → Imp → Option Flaw
  imp_flaw w (chain c) = chain_flaw w c
  imp_flaw w (implies i b c) = chain_flaw (noted_if (is_implied i) (mixed_chain b) (imp_flaw w i)) c

  pub chain_flaw : Option Flaw → Chain → Option Flaw
  chain_flaw w (operand o) = operand_flaw w o
  chain_flaw w (joined c k b o) = operand_flaw (noted_if (mixes k (came_in c)) (mixed_chain b) (chain_flaw w c)) o

  pub operand_flaw : Option Flaw → Operand → Option Flaw
  operand_flaw w (marked ms c) = core_flaw w c

  pub core_flaw : Option Flaw → Core → Option Flaw
  core_flaw w (negated o) = operand_flaw w o
  core_flaw w (quantified q f) = formula_flaw w f
  core_flaw w (grouped f) = formula_flaw w f
  core_flaw w (atom a) = atom_flaw w a
