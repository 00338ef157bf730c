-- The grammar, and the same over derivations: texts, trees and flaws of one are those of the other.
use Rattle.std.proofs.Common.{◌≡◌, sym, ◌∙◌, ap, subst, List, [], ◌∷◌, map, Option, None}
use Rattle.std.specs.List.{AllByRecursion}
use Rattle.formula_parse.specs.Tokens.{Token, Placed, here, token_of, end}
use Rattle.formula_parse.specs.Trees as shapes
use Rattle.formula_parse.specs.Limits.{IsAllowed}
use Rattle.formula_parse.specs.Formulas.{WrittenFormula, derived_tokens}
use Rattle.formula_parse.specs.FormulaTrees.{default_system, tree_of}
use Rattle.formula_parse.specs.FormulaFlaws.{formula_flaw}
use Rattle.formula_parse.specs.Flaws.{Flaw}
use Rattle.formula_parse.specs.Grammar.{Derives, GoesOn, Begins, Breaks, Reaches}
use Rattle.formula_parse.proofs.Derivations as derivations
use Rattle.formula_parse.proofs.DerivedFlaws as flaws
use Rattle.formula_parse.proofs.DerivedGrammar as derived
use Rattle.formula_parse.proofs.SameFormulas.{Alike}
use Rattle.formula_parse.proofs.ToDerivations.{OfText, derived_of}
use Rattle.formula_parse.proofs.FromDerivations.{formula_of}

derived_same : (g : derivations.Formula) (f : WrittenFormula) → Alike g f → derivations.derived_tokens g ≡ derived_tokens f
derived_same g f s = s.derived_is 0 (here end 0 ∷ [])

same_tokens : (g : derivations.Formula) (f : WrittenFormula) → Alike g f → map token_of (derivations.derived_tokens g) ≡ map token_of (derived_tokens f)
same_tokens g f s = ap (map token_of) (derived_same g f s)

-- a derivation of a text
to_derivation : (text : WrittenFormula) (read more : List Placed) → GoesOn text read more → OfText text
to_derivation text read more g = derived_of text g.takes_all

goes_derived : (text : WrittenFormula) (read more : List Placed) (g : GoesOn text read more) → derived.GoesOn (to_derivation text read more g).to read more
goes_derived text read more g =
    let u = to_derivation text read more g in
    record { derived_is = derived_same u.to text u.same ∙ g.derived_is }

-- the text of a derivation
goes_on : (text : derivations.Formula) (read more : List Placed) → derived.GoesOn text read more → GoesOn (formula_of text).to read more
goes_on text read more g =
    let u = formula_of text in
    record { derived_is = sym (derived_same text u.to u.same) ∙ g.derived_is; takes_all = u.takes end tt }

begins_derived : (prefix : List Token) → Begins prefix → derived.Begins prefix
begins_derived prefix b = record {
  text = (to_derivation b.text b.read b.more b.goes_on).to;
  read = b.read;
  more = b.more;
  goes_on = goes_derived b.text b.read b.more b.goes_on;
  tokens_are = b.tokens_are;
  allowed = b.allowed;
}

begins : (prefix : List Token) → derived.Begins prefix → Begins prefix
begins prefix b = record {
  text = (formula_of b.text).to;
  read = b.read;
  more = b.more;
  goes_on = goes_on b.text b.read b.more b.goes_on;
  tokens_are = b.tokens_are;
  allowed = b.allowed;
}

pub breaks_derived : (prefix : List Token) (token : Token) → Breaks prefix token → derived.Breaks prefix token
breaks_derived prefix token b = record {
  before = begins_derived prefix b.before;
  there = λ text read more g e. b.there (formula_of text).to read more (goes_on text read more g) e;
}

pub breaks : (prefix : List Token) (token : Token) → derived.Breaks prefix token → Breaks prefix token
breaks prefix token b = record {
  before = begins prefix b.before;
  there = λ text read more g e. b.there (to_derivation text read more g).to read more (goes_derived text read more g) e;
}

pub reaches_derived : (prefix : List Token) (token : Token) (p : Placed) → Reaches prefix token p → derived.Reaches prefix token p
reaches_derived prefix token p r = record {
  text = (to_derivation r.text r.read (p ∷ r.more) r.goes_on).to;
  read = r.read;
  more = r.more;
  goes_on = goes_derived r.text r.read (p ∷ r.more) r.goes_on;
  tokens_are = r.tokens_are;
  token_is = r.token_is;
  allowed = r.allowed;
}

pub reaches : (prefix : List Token) (token : Token) (p : Placed) → derived.Reaches prefix token p → Reaches prefix token p
reaches prefix token p r = record {
  text = (formula_of r.text).to;
  read = r.read;
  more = r.more;
  goes_on = goes_on r.text r.read (p ∷ r.more) r.goes_on;
  tokens_are = r.tokens_are;
  token_is = r.token_is;
  allowed = r.allowed;
}

-- a whole text, what it is derived by, and what this says
pub record Whole (ts : List Token) (tree : shapes.Formula) (flaw : Option Flaw) : Type 0 where
  pub text : WrittenFormula
  pub derives : Derives ts text
  pub tree_is : tree_of text ≡ tree
  pub flaw_is : formula_flaw None text ≡ flaw

pub record WholeDerived (ts : List Token) (tree : shapes.Formula) (flaw : Option Flaw) : Type 0 where
  pub text : derivations.Formula
  pub derives : derived.Derives ts text
  pub tree_is : derived.tree_of text ≡ tree
  pub flaw_is : flaws.formula_flaw None text ≡ flaw

pub whole_derived : (ts : List Token) (tree : shapes.Formula) (flaw : Option Flaw) → Whole ts tree flaw → WholeDerived ts tree flaw
whole_derived ts tree flaw w =
    let u = derived_of w.text w.derives.takes_all in
    record {
      text = u.to;
      derives = record {
        derived_is = same_tokens u.to w.text u.same ∙ w.derives.derived_is;
        allowed = subst (AllByRecursion IsAllowed) (sym (derived_same u.to w.text u.same)) w.derives.allowed;
      };
      tree_is = u.same.tree_is default_system ∙ w.tree_is;
      flaw_is = u.same.flaw_is None ∙ w.flaw_is;
    }

pub whole : (ts : List Token) (tree : shapes.Formula) (flaw : Option Flaw) → WholeDerived ts tree flaw → Whole ts tree flaw
whole ts tree flaw w =
    let u = formula_of w.text in
    record {
      text = u.to;
      derives = record {
        derived_is = sym (same_tokens w.text u.to u.same) ∙ w.derives.derived_is;
        takes_all = u.takes end tt;
        allowed = subst (AllByRecursion IsAllowed) (derived_same w.text u.to u.same) w.derives.allowed;
      };
      tree_is = sym (u.same.tree_is default_system) ∙ w.tree_is;
      flaw_is = sym (u.same.flaw_is None) ∙ w.flaw_is;
    }
