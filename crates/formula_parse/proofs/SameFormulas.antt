-- Formulas of the grammar, and derivations of the same tokens, tree and flaws.
use Rattle.std.proofs.Common.{◌≡◌, refl, sym, ◌∙◌, ap, subst, ℕ, suc, Bool, List, [], ◌∷◌, ◌++◌, Option}
use Rattle.formula_parse.specs.Tokens as tokens
use Rattle.formula_parse.specs.Tokens.{Name, Connective, Token, Placed, here}
use Rattle.formula_parse.specs.Trees as shapes
use Rattle.formula_parse.specs.Trees.{Names, no_names, names}
use Rattle.formula_parse.specs.Making.{Binding, some, every, infinite}
use Rattle.formula_parse.proofs.Derivations as derived
use Rattle.formula_parse.specs.Formulas.{marks_then, Atom, Variables, variable_one, variable_more, Binder, WrittenFormula, imp, iff, Imp, chain, implies, Chain, operand, joined, Operand, marked, negated, quantified, grouped, atom, variables_then, binder_then, formula_then, imp_then, chain_then, operand_then}
use Rattle.formula_parse.specs.Formulas as written
use Rattle.formula_parse.specs.Machine.{within}
use Rattle.formula_parse.proofs.Derivations.{binding_then, tildes_then}
use Rattle.formula_parse.proofs.Systems as systems
use Rattle.formula_parse.specs.FormulaTrees.{marks_system, variables, binder_quantifier, binder_names, formula_system, imp_system, chain_system, operand_system, before_imp, last_imp, before_chain, last_chain, before_operand, last_operand, operand_tree}
use Rattle.formula_parse.proofs.Systems.{tildes_system}
use Rattle.formula_parse.proofs.DerivedFlaws as flaws
use Rattle.formula_parse.specs.Flaws.{Flaw, mixed_chain, noted_if, Came, came_next, mixes}
use Rattle.formula_parse.specs.Made.{trees}
use Rattle.formula_parse.specs.Building.{chained, under_marks, under_tildes, joint, quantifier_of, names_of}
use Rattle.formula_parse.specs.FormulaFlaws.{came_in, is_implied, formula_flaw, imp_flaw, chain_flaw, operand_flaw}
use Rattle.formula_parse.proofs.SameTerms.{both, SameAtom}

-- the system after an operand that closes
abbrev pub SystemIs : derived.Last → Name → Name → Type 0
SystemIs (derived.ends c) y z = systems.closed_system y c ≡ z
SystemIs (derived.quantified st ms q n f) y z = Unit {0}

pub record SameOperand (l : derived.Last) (o : Operand) : Type 0 where
  pub derived_is : (d : ℕ) (r : List Placed) → derived.last_then l d r ≡ operand_then o d r
  pub tree_is : (y : Name) → systems.last_of trees y l ≡ operand_tree y o
  pub system_is : (y : Name) → SystemIs l y (operand_system y o)
  pub flaw_is : (w : Option Flaw) → flaws.last_flaw w l ≡ operand_flaw w o

-- the operands before the last, and the last
pub record SameChain (os : derived.Operands) (l : derived.Last) (c : Chain) : Type 0 where
  pub derived_is : (d : ℕ) (r : List Placed) → derived.operands_then os d (derived.last_then l d r) ≡ chain_then c d r
  pub before_is : (y : Name) → systems.operands_of trees y os ≡ before_operand y c
  pub last_is : (y : Name) → systems.last_of trees (systems.operands_system y os) l ≡ last_operand y c
  pub system_is : (y : Name) → SystemIs l (systems.operands_system y os) (chain_system y c)
  pub came_is : flaws.came_of os ≡ came_in c
  pub flaw_is : (w : Option Flaw) → flaws.last_flaw (flaws.operands_flaw w os) l ≡ chain_flaw w c

-- the chains before the last, and the last
pub record SameImp (hs : derived.Chains) (os : derived.Operands) (l : derived.Last) (i : Imp) : Type 0 where
  pub derived_is : (d : ℕ) (r : List Placed) → derived.chains_then hs d (derived.operands_then os d (derived.last_then l d r)) ≡ imp_then i d r
  pub before_is : (y : Name) → systems.chains_of trees y hs ≡ before_chain y i
  pub last_is : (y : Name) → chained (systems.operands_of trees (systems.chains_system y hs) os) (systems.last_of trees (systems.operands_system (systems.chains_system y hs) os) l) ≡ last_chain y i
  pub system_is : (y : Name) → SystemIs l (systems.operands_system (systems.chains_system y hs) os) (imp_system y i)
  pub implied_is : flaws.is_implied hs ≡ is_implied i
  pub flaw_is : (w : Option Flaw) → flaws.last_flaw (flaws.operands_flaw (flaws.chains_flaw w hs) os) l ≡ imp_flaw w i

abbrev after_implications : Name → derived.Implications → derived.Chains → Name
after_implications y is hs = systems.chains_system (systems.implications_system y is) hs

abbrev last_tree : Name → derived.Chains → derived.Operands → derived.Last → shapes.Formula
last_tree z hs os l =
    chained
    (systems.chains_of trees z hs)
    (chained (systems.operands_of trees (systems.chains_system z hs) os) (systems.last_of trees (systems.operands_system (systems.chains_system z hs) os) l))

-- the implications before the last, and the last
pub record SameFormula (is : derived.Implications) (hs : derived.Chains) (os : derived.Operands) (l : derived.Last) (f : WrittenFormula) : Type 0 where
  pub derived_is : (d : ℕ) (r : List Placed) → derived.implications_then is d (derived.chains_then hs d (derived.operands_then os d (derived.last_then l d r))) ≡ formula_then f d r
  pub before_is : (y : Name) → systems.implications_of trees y is ≡ before_imp y f
  pub last_is : (y : Name) → last_tree (systems.implications_system y is) hs os l ≡ last_imp y f
  pub system_is : (y : Name) → SystemIs l (systems.operands_system (after_implications y is hs) os) (formula_system y f)
  pub flaw_is : (w : Option Flaw) → flaws.last_flaw (flaws.operands_flaw (flaws.chains_flaw (flaws.implications_flaw w is) hs) os) l ≡ formula_flaw w f

pub same_operand : (l : derived.Last) (o : Operand) → SameOperand l o → SameChain derived.no_operands l (operand o)
same_operand l o s = record {
  derived_is = s.derived_is;
  before_is = λ y. refl;
  last_is = s.tree_is;
  system_is = s.system_is;
  came_is = refl;
  flaw_is = s.flaw_is;
}

-- a system that is the same
moved : (l : derived.Last) {x y : Name} (z : Name) → x ≡ y → SystemIs l y z → SystemIs l x z
moved l z e h = subst (λ x. SystemIs l x z) (sym e) h

pub same_joined : (os : derived.Operands) (e : derived.Closed) (l : derived.Last) (c : Chain) (k : Connective) (b : ℕ) (o : Operand) → SameChain os (derived.ends e) c → SameOperand l o → SameChain (derived.operands os e k b) l (joined c k b o)
same_joined os e l c k b o s t = record {
  derived_is = λ d r.
      s.derived_is d (here (tokens.connective k b) d ∷ derived.last_then l d r)
      ∙ ap (λ z. chain_then c d (here (tokens.connective k b) d ∷ z)) (t.derived_is d r);
  before_is = λ y. both (λ (a : shapes.Operands) (f : shapes.Formula). shapes.operands a f (joint k)) (s.before_is y) (s.last_is y);
  last_is = λ y. ap (λ z. systems.last_of trees z l) (s.system_is y) ∙ t.tree_is (chain_system y c);
  system_is = λ y. moved l (operand_system (chain_system y c) o) (s.system_is y) (t.system_is (chain_system y c));
  came_is = ap (came_next k) s.came_is;
  flaw_is = λ w.
      t.flaw_is (noted_if (mixes k (flaws.came_of os)) (mixed_chain b) (flaws.closed_flaw (flaws.operands_flaw w os) e))
      ∙ ap (λ z. operand_flaw z o) (both (λ (a : Came) (z : Option Flaw). noted_if (mixes k a) (mixed_chain b) z) s.came_is (s.flaw_is w));
}

pub same_chain : (os : derived.Operands) (l : derived.Last) (c : Chain) → SameChain os l c → SameImp derived.no_chains os l (chain c)
same_chain os l c s = record {
  derived_is = s.derived_is;
  before_is = λ y. refl;
  last_is = λ y. both chained (s.before_is y) (s.last_is y);
  system_is = s.system_is;
  implied_is = refl;
  flaw_is = s.flaw_is;
}

pub same_implies : (hs : derived.Chains) (os qs : derived.Operands) (e : derived.Closed) (l : derived.Last) (i : Imp) (b : ℕ) (c : Chain) → SameImp hs os (derived.ends e) i → SameChain qs l c → SameImp (derived.chains hs os e b) qs l (implies i b c)
same_implies hs os qs e l i b c s t = record {
  derived_is = λ d r.
      s.derived_is d (here (tokens.implies b) d ∷ derived.operands_then qs d (derived.last_then l d r))
      ∙ ap (λ z. imp_then i d (here (tokens.implies b) d ∷ z)) (t.derived_is d r);
  before_is = λ y. both (λ (a : shapes.Operands) (f : shapes.Formula). shapes.operands a f shapes.implies) (s.before_is y) (s.last_is y);
  last_is = λ y.
      ap (λ z. chained (systems.operands_of trees z qs) (systems.last_of trees (systems.operands_system z qs) l)) (s.system_is y)
      ∙ both chained (t.before_is (imp_system y i)) (t.last_is (imp_system y i));
  system_is = λ y.
      moved l (chain_system (imp_system y i) c) (ap (λ z. systems.operands_system z qs) (s.system_is y)) (t.system_is (imp_system y i));
  implied_is = refl;
  flaw_is = λ w.
      t.flaw_is (noted_if (flaws.is_implied hs) (mixed_chain b) (flaws.closed_flaw (flaws.operands_flaw (flaws.chains_flaw w hs) os) e))
      ∙ ap (λ z. chain_flaw z c) (both (λ (a : Bool) (z : Option Flaw). noted_if a (mixed_chain b) z) s.implied_is (s.flaw_is w));
}

pub same_imp : (hs : derived.Chains) (os : derived.Operands) (l : derived.Last) (i : Imp) → SameImp hs os l i → SameFormula derived.no_implications hs os l (imp i)
same_imp hs os l i s = record {
  derived_is = s.derived_is;
  before_is = λ y. refl;
  last_is = λ y. both chained (s.before_is y) (s.last_is y);
  system_is = s.system_is;
  flaw_is = s.flaw_is;
}

pub same_iff : (is : derived.Implications) (hs gs : derived.Chains) (os qs : derived.Operands) (e : derived.Closed) (l : derived.Last) (f : WrittenFormula) (i : Imp) → SameFormula is hs os (derived.ends e) f → SameImp gs qs l i → SameFormula (derived.implications is hs os e) gs qs l (iff f i)
same_iff is hs gs os qs e l f i s t = record {
  derived_is = λ d r.
      s.derived_is d (here tokens.iff d ∷ derived.chains_then gs d (derived.operands_then qs d (derived.last_then l d r)))
      ∙ ap (λ z. formula_then f d (here tokens.iff d ∷ z)) (t.derived_is d r);
  before_is = λ y. both (λ (a : shapes.Operands) (g : shapes.Formula). shapes.operands a g shapes.iff) (s.before_is y) (s.last_is y);
  last_is = λ y.
      ap (λ z. last_tree z gs qs l) (s.system_is y) ∙ both chained (t.before_is (formula_system y f)) (t.last_is (formula_system y f));
  system_is = λ y.
      moved
      l
      (imp_system (formula_system y f) i)
      (ap (λ z. systems.operands_system (systems.chains_system z gs) qs) (s.system_is y))
      (t.system_is (formula_system y f));
  flaw_is = λ w.
      t.flaw_is (flaws.closed_flaw (flaws.operands_flaw (flaws.chains_flaw (flaws.implications_flaw w is) hs) os) e)
      ∙ ap (λ z. imp_flaw z i) (s.flaw_is w);
}

-- a whole formula
pub record Alike (g : derived.Formula) (f : WrittenFormula) : Type 0 where
  pub derived_is : (d : ℕ) (r : List Placed) → derived.formula_then g d r ≡ formula_then f d r
  pub tree_is : (y : Name) → systems.formula_of trees y g ≡ chained (before_imp y f) (last_imp y f)
  pub flaw_is : (w : Option Flaw) → flaws.formula_flaw w g ≡ formula_flaw w f

pub alike : (is : derived.Implications) (hs : derived.Chains) (os : derived.Operands) (l : derived.Last) (f : WrittenFormula) → SameFormula is hs os l f → Alike (derived.formula is hs os l) f
alike is hs os l f s = record { derived_is = s.derived_is; tree_is = λ y. both chained (s.before_is y) (s.last_is y); flaw_is = s.flaw_is }

-- operands, by their core
pub same_atom : (ms : Names) (g : derived.Core) (a : Atom) → SameAtom g a → SameOperand (derived.ends (derived.marked ms g)) (marked ms (atom a))
same_atom ms g a s = record {
  derived_is = λ d r. ap (marks_then ms d) (s.derived_is d r);
  tree_is = λ y. ap (under_marks ms) (s.tree_is (marks_system y ms));
  system_is = λ y. s.system_is (marks_system y ms);
  flaw_is = s.flaw_is;
}

pub same_grouped : (ms : Names) (g : derived.Formula) (f : WrittenFormula) → Alike g f → SameOperand (derived.ends (derived.marked ms (derived.grouped g))) (marked ms (grouped f))
same_grouped ms g f s = record {
  derived_is = λ d r. ap (λ z. marks_then ms d (here tokens.opening (suc d) ∷ z)) (s.derived_is (suc d) (here tokens.closing d ∷ r));
  tree_is = λ y. ap (under_marks ms) (s.tree_is (marks_system y ms));
  system_is = λ y. refl;
  flaw_is = s.flaw_is;
}

pub same_not : (ms : Names) (e : derived.Closed) (o : Operand) → SameOperand (derived.ends e) o → SameOperand (derived.ends (derived.marked ms (derived.not_closed e))) (marked ms (negated o))
same_not ms e o s = record {
  derived_is = λ d r. ap (λ z. marks_then ms d (here tokens.negation (suc d) ∷ z)) (s.derived_is (suc d) r);
  tree_is = λ y. ap (λ z. under_marks ms (shapes.negated z)) (s.tree_is (marks_system y ms));
  system_is = λ y. s.system_is (marks_system y ms);
  flaw_is = s.flaw_is;
}

-- the variables before the last, and the last
pub record SameVariables (ns : Names) (n : Name) (vs : Variables) : Type 0 where
  pub derived_is : (d : ℕ) (r : List Placed) → derived.variables_then ns d (here (tokens.name n) d ∷ r) ≡ variables_then vs d r
  pub names_are : names ns n ≡ variables vs

pub same_variable_one : (n : Name) → SameVariables no_names n (variable_one n)
same_variable_one n = record { derived_is = λ d r. refl; names_are = refl }

pub same_variable_more : (ns : Names) (m n : Name) (vs : Variables) → SameVariables ns m vs → SameVariables (names ns m) n (variable_more vs n)
same_variable_more ns m n vs s = record {
  derived_is = λ d r. s.derived_is d (here tokens.comma d ∷ here (tokens.name n) d ∷ r);
  names_are = cc (s.names_are);
}

-- the quantifier with its variables before the last, and the last
pub record SameBinder (q : Binding) (n : Name) (b : Binder) : Type 0 where
  pub derived_is : (d : ℕ) (r : List Placed) → binding_then q d (here (tokens.name n) d ∷ r) ≡ binder_then b d r
  pub quantifier_is : quantifier_of q ≡ binder_quantifier b
  pub names_are : names (names_of q) n ≡ binder_names b

pub same_some : (ns : Names) (n : Name) (vs : Variables) → SameVariables ns n vs → SameBinder (some ns) n (written.some vs)
same_some ns n vs s = record {
  derived_is = λ d r. ap (λ z. here (tokens.quantifier tokens.some) d ∷ z) (s.derived_is d r);
  quantifier_is = refl;
  names_are = s.names_are;
}

pub same_every : (ns : Names) (n : Name) (vs : Variables) → SameVariables ns n vs → SameBinder (every ns) n (written.every vs)
same_every ns n vs s = record {
  derived_is = λ d r. ap (λ z. here (tokens.quantifier tokens.every) d ∷ z) (s.derived_is d r);
  quantifier_is = refl;
  names_are = s.names_are;
}

pub same_infinite : (n : Name) → SameBinder infinite n (written.infinite n)
same_infinite n = record { derived_is = λ d r. refl; quantifier_is = refl; names_are = refl }

pub same_quantified : (ms : Names) (q : Binding) (n : Name) (b : Binder) (g : derived.Formula) (f : WrittenFormula) → SameBinder q n b → Alike g f → SameOperand (derived.quantified [] ms q n g) (marked ms (quantified b f))
same_quantified ms q n b g f v s = record {
  derived_is = λ d r.
      ap
      (marks_then ms d)
      (v.derived_is (suc d) (derived.formula_then g (suc d) r) ∙ ap (binder_then b (suc d)) (s.derived_is (suc d) r));
  tree_is = λ y.
      ap
      (under_marks ms)
      (ap (λ k. shapes.quantified k (names (names_of q) n) (systems.formula_of trees (marks_system y ms) g)) v.quantifier_is
      ∙ both (shapes.quantified (binder_quantifier b)) v.names_are (s.tree_is (marks_system y ms)));
  system_is = λ y. tt;
  flaw_is = s.flaw_is;
}

-- a `~` before all others
within_first : (st : List Names) (ms : Names) (d : ℕ) → within (st ++ ms ∷ []) d ≡ within st (suc d)
within_first [] ms d = refl
within_first (m ∷ st) ms d = ap suc (within_first st ms d)

tildes_first : (st : List Names) (ms : Names) (d : ℕ) (r : List Placed) → tildes_then (st ++ ms ∷ []) d r ≡ marks_then ms d (here tokens.negation (suc d) ∷ tildes_then st (suc d) r)
tildes_first [] ms d r = refl
tildes_first (m ∷ st) ms d r =
    tildes_first st ms d (marks_then m (within (st ++ ms ∷ []) d) (here tokens.negation (suc (within (st ++ ms ∷ []) d)) ∷ r))
    ∙ ap
    (λ e. marks_then ms d (here tokens.negation (suc d) ∷ tildes_then st (suc d) (marks_then m e (here tokens.negation (suc e) ∷ r))))
    (within_first st ms d)

trees_first : (st : List Names) (ms : Names) (f : shapes.Formula) → under_tildes (st ++ ms ∷ []) f ≡ under_marks ms (shapes.negated (under_tildes st f))
trees_first [] ms f = refl
trees_first (m ∷ st) ms f = trees_first st ms (under_marks m (shapes.negated f))

system_first : (st : List Names) (ms : Names) (y : Name) → tildes_system y (st ++ ms ∷ []) ≡ tildes_system (marks_system y ms) st
system_first [] ms y = refl
system_first (m ∷ st) ms y = ap (λ z. marks_system z m) (system_first st ms y)

module _ (ms : Names) (st : List Names) (ks : Names) (q : Binding) (n : Name) (g : derived.Formula) where
  abbrev last_derived : ℕ → List Placed → List Placed
  last_derived e r =
      marks_then ks e (binding_then q (suc e) (here (tokens.name n) (suc e) ∷ derived.formula_then g (suc e) r))

  abbrev last_tree_in : Name → shapes.Formula
  last_tree_in z = under_marks ks (shapes.quantified (quantifier_of q) (names (names_of q) n) (systems.formula_of trees (marks_system z ks) g))

  pub same_tilde : (o : Operand) → SameOperand (derived.quantified st ks q n g) o → SameOperand (derived.quantified (st ++ ms ∷ []) ks q n g) (marked ms (negated o))
  same_tilde o s = record {
    derived_is = λ d r.
        ap (λ e. tildes_then (st ++ ms ∷ []) d (last_derived e r)) (within_first st ms d)
        ∙ (tildes_first st ms d (last_derived (within st (suc d)) r) ∙ ap (λ z. marks_then ms d (here tokens.negation (suc d) ∷ z)) (s.derived_is (suc d) r));
    tree_is = λ y.
        trees_first st ms (last_tree_in (tildes_system y (st ++ ms ∷ [])))
        ∙ (ap (λ z. under_marks ms (shapes.negated (under_tildes st (last_tree_in z)))) (system_first st ms y)
        ∙ ap (λ z. under_marks ms (shapes.negated z)) (s.tree_is (marks_system y ms)));
    system_is = λ y. tt;
    flaw_is = s.flaw_is;
  }
