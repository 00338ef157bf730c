-- The tree of a formula of the grammar, with the system that is in force at each atom.
use Rattle.std.specs.Prelude.{suc, [], ◌∷◌}
use Rattle.formula_parse.specs.Tokens as tokens
use Rattle.formula_parse.specs.Tokens.{Name, Quantifier}
use Rattle.formula_parse.specs.Trees as trees
use Rattle.formula_parse.specs.Trees.{Names, no_names, names}
use Rattle.formula_parse.specs.Formulas.{Factor, variable, numeral, in_parens, Prod, factor, times, divided, Term, prod, signed, Index, word, further, Terms, term, comma, Atom, compare, words, word_letter, letter_word, call_none, call, Variables, variable_one, variable_more, Binder, some, every, infinite, WrittenFormula, imp, iff, Imp, chain, implies, Chain, operand, joined, Operand, marked, Core, negated, quantified, grouped, atom}
use Rattle.formula_parse.specs.Building.{multiplied, summed, chained, under_marks, letter_of, joint, in_system}

-- Of what repeats: the tree of the last item, and those of the items before it; the factors of a product are one list. A list of one is its item, and parentheses leave no mark.
abbrev mutual
  pub factor_tree : Factor → trees.Term
  factor_tree (variable n) = trees.variable n
  factor_tree (numeral n) = trees.numeral n
  factor_tree (in_parens t) = summed (before_prod t) (last_prod t)

  pub factors_of : Prod → trees.Factors
  factors_of (factor f) = trees.factors trees.no_factors (trees.times (factor_tree f))
  factors_of (times p b f) = trees.factors (factors_of p) (trees.times (factor_tree f))
  factors_of (divided p c) = trees.factors (factors_of p) (trees.divided (suc c))

  pub before_prod : Term → trees.Addends
  before_prod (prod p) = trees.no_addends
  before_prod (signed t s p) = trees.addends (before_prod t) (last_prod t) s

  pub last_prod : Term → trees.Term
  last_prod (prod p) = multiplied (factors_of p)
  last_prod (signed t s p) = multiplied (factors_of p)

abbrev pub term_tree : Term → trees.Term
term_tree t = summed (before_prod t) (last_prod t)

abbrev pub index_word : Index → Name
index_word (word n t) = n
index_word (further x t) = index_word x

abbrev pub index_places : Index → trees.Terms
index_places (word n t) = trees.terms trees.no_terms (term_tree t)
index_places (further x t) = trees.terms (index_places x) (term_tree t)

abbrev pub index_tree : Index → trees.Index
index_tree x = record { word = index_word x; places = index_places x }

abbrev pub terms_tree : Terms → trees.Terms
terms_tree (term t) = trees.terms trees.no_terms (term_tree t)
terms_tree (comma ts t) = trees.terms (terms_tree ts) (term_tree t)

abbrev pub fact : Atom → trees.Fact
fact (compare t e u) = trees.compare (term_tree t) e (term_tree u)
fact (words x e z) = trees.words (index_tree x) e (index_tree z)
fact (word_letter x e l) = trees.word_letter (index_tree x) e (letter_of l)
fact (letter_word l e x) = trees.letter_word (letter_of l) e (index_tree x)
fact (call_none n) = trees.call n trees.no_terms
fact (call n ts) = trees.call n (terms_tree ts)

abbrev pub variables : Variables → trees.Names
variables (variable_one n) = trees.names trees.no_names n
variables (variable_more vs n) = trees.names (variables vs) n

abbrev pub binder_quantifier : Binder → Quantifier
binder_quantifier (some vs) = tokens.some
binder_quantifier (every vs) = tokens.every
binder_quantifier (infinite n) = tokens.infinite

abbrev pub binder_names : Binder → trees.Names
binder_names (some vs) = variables vs
binder_names (every vs) = variables vs
binder_names (infinite n) = trees.names trees.no_names n

-- the system in force after some marks
abbrev pub marks_system : Name → Names → Name
marks_system y no_names = y
marks_system y (names ms n) = n

-- The system in force after each, where one is in force before it: that of the last `?` mark. A mark holds up to the closing parenthesis.
abbrev mutual
  pub formula_system : Name → WrittenFormula → Name
  formula_system y (imp i) = imp_system y i
  formula_system y (iff f i) = imp_system (formula_system y f) i

  pub imp_system : Name → Imp → Name
  imp_system y (chain c) = chain_system y c
  imp_system y (implies i b c) = chain_system (imp_system y i) c

  pub chain_system : Name → Chain → Name
  chain_system y (operand o) = operand_system y o
  chain_system y (joined c k b o) = operand_system (chain_system y c) o

  pub operand_system : Name → Operand → Name
  operand_system y (marked ms c) = core_system (marks_system y ms) c

  pub core_system : Name → Core → Name
  core_system y (negated o) = operand_system y o
  core_system y (quantified q f) = formula_system y f
  core_system y (grouped f) = y
  core_system y (atom a) = y

-- the trees, where a system is in force
abbrev mutual
  pub before_imp : Name → WrittenFormula → trees.Operands
  before_imp y (imp i) = trees.no_operands
  before_imp y (iff f i) = trees.operands (before_imp y f) (last_imp y f) trees.iff

  pub last_imp : Name → WrittenFormula → trees.Formula
  last_imp y (imp i) = chained (before_chain y i) (last_chain y i)
  last_imp y (iff f i) = chained (before_chain (formula_system y f) i) (last_chain (formula_system y f) i)

  pub before_chain : Name → Imp → trees.Operands
  before_chain y (chain c) = trees.no_operands
  before_chain y (implies i b c) = trees.operands (before_chain y i) (last_chain y i) trees.implies

  pub last_chain : Name → Imp → trees.Formula
  last_chain y (chain c) = chained (before_operand y c) (last_operand y c)
  last_chain y (implies i b c) = chained (before_operand (imp_system y i) c) (last_operand (imp_system y i) c)

  pub before_operand : Name → Chain → trees.Operands
  before_operand y (operand o) = trees.no_operands
  before_operand y (joined c k b o) = trees.operands (before_operand y c) (last_operand y c) (joint k)

  pub last_operand : Name → Chain → trees.Formula
  last_operand y (operand o) = operand_tree y o
  last_operand y (joined c k b o) = operand_tree (chain_system y c) o

  pub operand_tree : Name → Operand → trees.Formula
  operand_tree y (marked ms c) = under_marks ms (core_tree (marks_system y ms) c)

  pub core_tree : Name → Core → trees.Formula
  core_tree y (negated o) = trees.negated (operand_tree y o)
  core_tree y (quantified q f) = trees.quantified (binder_quantifier q) (binder_names q) (chained (before_imp y f) (last_imp y f))
  core_tree y (grouped f) = chained (before_imp y f) (last_imp y f)
  core_tree y (atom a) = in_system y (fact a)

abbrev pub formula_tree : Name → WrittenFormula → trees.Formula
formula_tree y f = chained (before_imp y f) (last_imp y f)

-- the system where no mark is: `msd_2`
abbrev pub default_system : Name
default_system = 109 ∷ 115 ∷ 100 ∷ 95 ∷ 50 ∷ []

-- the tree of a text
abbrev pub tree_of : WrittenFormula → trees.Formula
tree_of f = formula_tree default_system f
