-- The tree of a formula whose tokens name no automaton and index no word.
use Rattle.std.proofs.Common.{ℕ, suc, Bool, true, false, List, [], ◌∷◌, map, sym, subst}
use Rattle.std.specs.Prelude.{⊤}
use Rattle.std.specs.List.{AllByRecursion}
use Rattle.formula_parse.specs.Tokens.{Name, Letter, Placed, token_of}
use Rattle.formula_parse.specs.Trees as trees
use Rattle.formula_parse.specs.Trees.{Names, no_names, names}
use Rattle.formula_parse.specs.Building.{chained, under_marks}
use Rattle.formula_parse.specs.Formulas.{Factor, variable, numeral, in_parens, Prod, factor, times, divided, Term, prod, signed, Index, word, further, Atom, compare, words, word_letter, letter_word, call_none, call, Variables, variable_one, variable_more, Binder, some, every, infinite, WrittenFormula, imp, iff, Imp, chain, implies, Chain, operand, joined, Operand, marked, Core, negated, quantified, grouped, atom, factor_then, prod_then, term_then, index_then, minus_then, letter_then, atom_then, variables_then, binder_then, marks_then, formula_then, imp_then, chain_then, operand_then, core_then, derived_tokens}
use Rattle.formula_parse.specs.FormulaTrees.{fact, marks_system, formula_system, imp_system, chain_system, before_imp, last_imp, before_chain, last_chain, before_operand, last_operand, operand_tree, core_tree, default_system}
use Rattle.headlines.specs.Sentences.{HasNo, IsReadAs}
use Rattle.headlines.proofs.PlainTokens.{IsNameless, nameless_tokens}

-- a formula that names nothing: it has comparisons of terms alone
abbrev pub IsPlainFact : trees.Fact → Type 0
IsPlainFact (trees.compare t r u) = ⊤
IsPlainFact (trees.words x r y) = ⊥
IsPlainFact (trees.word_letter x r l) = ⊥
IsPlainFact (trees.letter_word l r x) = ⊥
IsPlainFact (trees.call n ts) = ⊥

abbrev mutual
  pub IsPlainFormula : trees.Formula → Type 0
  IsPlainFormula (trees.atom x) = IsPlainFact x.fact
  IsPlainFormula (trees.negated f) = IsPlainFormula f
  IsPlainFormula (trees.chain os f) = ArePlainOperands os × IsPlainFormula f
  IsPlainFormula (trees.quantified q ns f) = IsPlainFormula f
  IsPlainFormula (trees.marked ms f) = IsPlainFormula f

  pub ArePlainOperands : trees.Operands → Type 0
  ArePlainOperands trees.no_operands = ⊤
  ArePlainOperands (trees.operands os f j) = ArePlainOperands os × IsPlainFormula f

chained_plain : (os : trees.Operands) (f : trees.Formula) → ArePlainOperands os → IsPlainFormula f → IsPlainFormula (chained os f)
chained_plain trees.no_operands f before last = last
chained_plain (trees.operands os g j) f before last = (before, last)

marks_plain : (ms : Names) (f : trees.Formula) → IsPlainFormula f → IsPlainFormula (under_marks ms f)
marks_plain no_names f is = is
marks_plain (names ms n) f is = is

-- no token of a list names anything
abbrev Nameless : List Placed → Type 0
Nameless ps = AllByRecursion (λ p. IsNameless (token_of p)) ps

-- what comes after names nothing
mutual
  after_factor : (f : Factor) (d : ℕ) (r : List Placed) → Nameless (factor_then f d r) → Nameless r
  after_factor (variable n) d r all = all.1
  after_factor (numeral n) d r all = all.1
  after_factor (in_parens t) d r all = (after_term t (suc d) _ all.1).1

  after_prod : (p : Prod) (d : ℕ) (r : List Placed) → Nameless (prod_then p d r) → Nameless r
  after_prod (factor f) d r all = after_factor f d r all
  after_prod (times p b f) d r all = after_factor f d r (after_prod p d _ all).1
  after_prod (divided p c) d r all = (after_prod p d _ all).1.1

  after_term : (t : Term) (d : ℕ) (r : List Placed) → Nameless (term_then t d r) → Nameless r
  after_term (prod p) d r all = after_prod p d r all
  after_term (signed t s p) d r all = after_prod p d r (after_term t d _ all).1

-- a word is indexed
no_index : (x : Index) (d : ℕ) (r : List Placed) → Nameless (index_then x d r) → ⊥
no_index (word n t) d r all = all.1.0
no_index (further x t) d r all = no_index x d _ all

after_minus : (b : Bool) (d : ℕ) (r : List Placed) → Nameless (minus_then b d r) → Nameless r
after_minus true d r all = all.1
after_minus false d r all = all

after_letter : (l : Letter) (d : ℕ) (r : List Placed) → Nameless (letter_then l d r) → Nameless r
after_letter l d r all = (after_minus l.negative d _ all.1).1

atom_plain : (a : Atom) (d : ℕ) (r : List Placed) → Nameless (atom_then a d r) → IsPlainFact (fact a) × Nameless r
atom_plain (compare t e u) d r all = (tt, after_term u d r (after_term t d _ all).1)
atom_plain (words x e z) d r all = absurd (no_index x d _ all)
atom_plain (word_letter x e l) d r all = absurd (no_index x d _ all)
atom_plain (letter_word l e x) d r all = absurd (no_index x d r (after_letter l d _ all).1)
atom_plain (call_none n) d r all = absurd all.0
atom_plain (call n ts) d r all = absurd all.0

after_variables : (vs : Variables) (d : ℕ) (r : List Placed) → Nameless (variables_then vs d r) → Nameless r
after_variables (variable_one n) d r all = all.1
after_variables (variable_more vs n) d r all = (after_variables vs d _ all).1.1

after_binder : (q : Binder) (d : ℕ) (r : List Placed) → Nameless (binder_then q d r) → Nameless r
after_binder (some vs) d r all = after_variables vs d r all.1
after_binder (every vs) d r all = after_variables vs d r all.1
after_binder (infinite n) d r all = all.1.1

after_marks : (ms : Names) (d : ℕ) (r : List Placed) → Nameless (marks_then ms d r) → Nameless r
after_marks no_names d r all = all
after_marks (names ms n) d r all = (after_marks ms d _ all).1.1

mutual
  formula_plain : (y : Name) (f : WrittenFormula) (d : ℕ) (r : List Placed) → Nameless (formula_then f d r) → ArePlainOperands (before_imp y f) × IsPlainFormula (last_imp y f) × Nameless r
  formula_plain y (imp i) d r all = let here = imp_plain y i d r all in (tt, chained_plain (before_chain y i) (last_chain y i) here.0 here.1, here.2)
  formula_plain y (iff f i) d r all =
      let first = formula_plain y f d _ all in
      let here = imp_plain (formula_system y f) i d r first.2.1 in
      ((first.0, first.1), chained_plain (before_chain (formula_system y f) i) (last_chain (formula_system y f) i) here.0 here.1, here.2)

  imp_plain : (y : Name) (i : Imp) (d : ℕ) (r : List Placed) → Nameless (imp_then i d r) → ArePlainOperands (before_chain y i) × IsPlainFormula (last_chain y i) × Nameless r
  imp_plain y (chain c) d r all = let here = chain_plain y c d r all in (tt, chained_plain (before_operand y c) (last_operand y c) here.0 here.1, here.2)
  imp_plain y (implies i b c) d r all =
      let first = imp_plain y i d _ all in
      let here = chain_plain (imp_system y i) c d r first.2.1 in
      ((first.0, first.1), chained_plain (before_operand (imp_system y i) c) (last_operand (imp_system y i) c) here.0 here.1, here.2)

  chain_plain : (y : Name) (c : Chain) (d : ℕ) (r : List Placed) → Nameless (chain_then c d r) → ArePlainOperands (before_operand y c) × IsPlainFormula (last_operand y c) × Nameless r
  chain_plain y (operand o) d r all = let here = operand_plain y o d r all in (tt, here.0, here.1)
  chain_plain y (joined c k b o) d r all =
      let first = chain_plain y c d _ all in
      let here = operand_plain (chain_system y c) o d r first.2.1 in
      ((first.0, first.1), here.0, here.1)

  operand_plain : (y : Name) (o : Operand) (d : ℕ) (r : List Placed) → Nameless (operand_then o d r) → IsPlainFormula (operand_tree y o) × Nameless r
  operand_plain y (marked ms c) d r all =
      let here = core_plain (marks_system y ms) c d r (after_marks ms d _ all) in
      (marks_plain ms (core_tree (marks_system y ms) c) here.0, here.1)

  core_plain : (y : Name) (c : Core) (d : ℕ) (r : List Placed) → Nameless (core_then c d r) → IsPlainFormula (core_tree y c) × Nameless r
  core_plain y (negated o) d r all = operand_plain y o (suc d) r all.1
  core_plain y (quantified q f) d r all =
      let here = formula_plain y f (suc d) r (after_binder q (suc d) _ all) in
      (chained_plain (before_imp y f) (last_imp y f) here.0 here.1, here.2)
  core_plain y (grouped f) d r all =
      let here = formula_plain y f (suc d) _ all.1 in
      (chained_plain (before_imp y f) (last_imp y f) here.0 here.1, here.2.1)
  core_plain y (atom a) d r all = atom_plain a d r all

of_tokens : (ps : List Placed) → AllByRecursion IsNameless (map token_of ps) → Nameless ps
of_tokens [] all = tt
of_tokens (p ∷ ps) all = (all.0, of_tokens ps all.1)

pub plain_formula : (text : List ℕ) (f : trees.Formula) → IsReadAs text f → HasNo 36 text → HasNo 91 text → IsPlainFormula f
plain_formula text f read no_call no_index =
    let quiet : AllByRecursion IsNameless (map token_of (derived_tokens read.written)) = subst (AllByRecursion IsNameless) (sym read.tokens_are) (nameless_tokens text no_call no_index) in
    let parts = formula_plain default_system read.written 0 _ (of_tokens (derived_tokens read.written) quiet) in
    subst IsPlainFormula read.tree_is (chained_plain (before_imp default_system read.written) (last_imp default_system read.written) parts.0 parts.1)
